-- What is marked along the paths of a port is what stands on them.
use Rattle.std.proofs.Common.{◌≡◌, ℕ, Bool, ◌||◌, List, [], ◌∷◌, ◌++◌, map, Some, Result, refl, sym, ap, ◌∙◌, append_assoc}
use Rattle.std.specs.List.{All, list_any, filter, flat_map}
use Rattle.std.specs.Result.{OnOk}
use Rattle.std.proofs.lemmas.Result.{on_ok_weaker}
use Rattle.std.proofs.lemmas.List.{append-nil, map-append}
use Rattle.std.proofs.lemmas.List.Elements.{All-nil, All-cons, All-head, All-tail, All-filter, filter_agree}
use Rattle.nf_base.specs.Doors.{handler_at, doors_at}
use Rattle.nf_base.specs.declared.packet.Family.TheVariants.{Four, Six}
use Rattle.nf_base.specs.declared.packet.Door.{Door}
use Rattle.nf_base.specs.Text.{Block, Function}
use Rattle.nf_base.specs.TextPlaces.{places_in}
use Rattle.nf_base.specs.Statements.{Statement, statements}
use Rattle.nf_base.specs.Paths.{Branch, PathStep, paths}
use Rattle.path_walk.specs.Feasible.{is_feasible, feasible_paths, branches_along}
use Rattle.path_walk.specs.Listed.{door_branches}
use Rattle.nf_sites.specs.Sites as text
use Rattle.nf_sites.specs.OnPaths.{statement_of, sites_along, text_sites, is_on, is_reached, handler_sites, door_sites}
use Rattle.access_keys.specs.declared.site.Site.{Site}
use Rattle.access_keys.specs.declared.access.Here.{Here}
use Rattle.path_walk.specs.Alive.{alive, past}
use Rattle.access_keys.specs.Together.{new_seen, all_set}
use Rattle.access_keys.specs.Reached.{has, places_marked, AreMarked}
use Rattle.access_keys.specs.Shown.{shown, passing, Puts}
use Rattle.access_keys.specs.Told.{site_told, sites_told}
use Rattle.access_keys.proofs.Replay.{replay, IsSame, replayed}
use Rattle.access_keys.proofs.Reach.{Agree, marked, comes, any_none, or_false, reach}
use Rattle.access_keys.proofs.Gathering.{is_among, marked_has}
use Rattle.access_keys.proofs.Same.{map_agree, same_known}

any_map : {A B : Type 0} (t : B → Bool) (v : A → B) (xs : List A) → list_any t (map v xs) ≡ list_any (λ x. t (v x)) xs
any_map t v [] = refl
any_map t v (x ∷ xs) = ap (λ r. t (v x) || r) (any_map t v xs)

-- nothing follows the end of a handler
abbrev nothing : List Branch → List PathStep
nothing bs = []

any_same :
    (s : PathStep → Bool) (f : List Branch → List PathStep) (ps : List (List PathStep)) → All (IsSame f) ps →
    list_any (λ (p : List PathStep). list_any s (f (branches_along p))) ps ≡ list_any (λ (p : List PathStep). list_any s p) ps
any_same s f [] all = refl
any_same s f (p ∷ ps) all =
    ap (λ q. list_any s q || list_any (λ (r : List PathStep). list_any s (f (branches_along r))) ps) (All-head (IsSame f) p ps all)
    ∙ ap (λ r. list_any s p || r) (any_same s f ps (All-tail (IsSame f) p ps all))

-- whether a statement has a place
abbrev has_place : ℕ → Statement → Bool
has_place place s = is_among place (places_in s)

agrees : (place : ℕ) → Agree (has_place place) (λ s. has_place place (statement_of s))
agrees place = record {
  does = λ op. refl;
  asks = λ q b. refl;
  makes = λ n b. refl;
  closes = λ e. refl;
  falls = refl;
}

-- the paths of a block come to a place where a marked statement has it
block_reached :
    (block : Block) (place : ℕ) →
    is_among place (places_marked (alive block (map branches_along (feasible_paths block))) (statements block))
    ≡ list_any (is_on place) (feasible_paths block)
block_reached block place =
    let t = has_place place in
    let s : PathStep → Bool = λ x. has_place place (statement_of x) in
    let ps = feasible_paths block in
    let live = map branches_along ps in
    let whole : All (IsSame (replay block nothing)) (paths block ([] ∷ [])) =
    replayed block ([] ∷ []) nothing (All-cons (IsSame nothing) [] [] refl (All-nil (IsSame nothing))) in
    let all : All (IsSame (replay block nothing)) ps = All-filter is_feasible (IsSame (replay block nothing)) (paths block ([] ∷ [])) whole in
    sym (marked_has place (statements block) (alive block live))
    ∙ sym (or_false (marked t (statements block) (alive block live)))
    ∙ ap (λ r. marked t (statements block) (alive block live) || r) (sym (any_none (past block live)))
    ∙ sym (reach t s (agrees place) block nothing live)
    ∙ any_map (comes s (replay block nothing)) branches_along ps
    ∙ any_same s (replay block nothing) ps all

-- and so do those of a port
pub port_reached :
    (f : Function) (door : Door) (block : Block) → handler_at f door ≡ Some block → (place : ℕ) →
    is_among place (places_marked (alive block (door_branches f door)) (statements block)) ≡ is_reached f door place
port_reached f door block e place = rw e (block_reached block place)

told_as : (f : Function) (s : text.Site) → shown (all_set f) f.chains s ≡ site_told f s
told_as f s =
    ap (λ k. let r : Site = record { object = s.object; door = s.door; place = s.place; sort = s.sort; known = k } in r)
    (same_known f s.door.family s.object s.named)

-- the sites that are put for a port are those that are told of it
pub told :
    (f : Function) (door : Door) (block : Block) (h : Here) (old new : List Site) (heads : List Statement) (marks : List Bool) →
    handler_at f door ≡ Some block → h.door ≡ door → h.decls.now ≡ f.chains → map new_seen h.all.now ≡ all_set f →
    heads ≡ statements block → marks ≡ alive block (door_branches f door) → AreMarked marks heads h.places.now →
    Puts h old new (sites_along h.decls.now h.door heads) → new ≡ old ++ sites_told f (door_sites f door)
told f door block h old new heads marks e here decls all hs ms a p =
    let here_sites : sites_along h.decls.now h.door heads ≡ text_sites f.chains door block =
    ap (λ d. sites_along d h.door heads) decls ∙ ap (λ n. sites_along f.chains n heads) here ∙ ap (sites_along f.chains door) hs in
    let reached : (place : ℕ) → has h.places.now place ≡ is_reached f door place =
    λ place.
    a.same place ∙ ap (λ r. is_among place (places_marked r heads)) ms
    ∙ ap (λ r. is_among place (places_marked (alive block (door_branches f door)) r)) hs
    ∙ port_reached f door block e place in
    let sites = text_sites f.chains door block in
    let kept = filter (λ (x : text.Site). is_reached f door x.place) sites in
    let here_kept : door_sites f door ≡ kept = ap (handler_sites f door) e in
    p.more
    ∙ ap (λ r. old ++ map (shown (map new_seen h.all.now) h.decls.now) (passing (has h.places.now) r)) here_sites
    ∙ ap (λ r. old ++ map (shown (map new_seen h.all.now) h.decls.now) r)
    (filter_agree (λ (x : text.Site). has h.places.now x.place) (λ (x : text.Site). is_reached f door x.place) (λ x. reached x.place) sites)
    ∙ ap (λ r. old ++ map (shown r h.decls.now) kept) all
    ∙ ap (λ d. old ++ map (shown (all_set f) d) kept) decls
    ∙ ap (λ r. old ++ r) (map_agree (shown (all_set f) f.chains) (site_told f) (told_as f) kept)
    ∙ ap (λ r. old ++ sites_told f r) (sym here_kept)

pub told_ok :
    {T E : Type 0} (r : Result T E) (f : Function) (door : Door) (block : Block) (h : Here) (old new : List Site) (heads : List Statement) (marks : List Bool) →
    handler_at f door ≡ Some block → h.door ≡ door → h.decls.now ≡ f.chains → map new_seen h.all.now ≡ all_set f →
    heads ≡ statements block → marks ≡ alive block (door_branches f door) → AreMarked marks heads h.places.now →
    OnOk r (Puts h old new (sites_along h.decls.now h.door heads)) → OnOk r (new ≡ old ++ sites_told f (door_sites f door))
told_ok r f door block h old new heads marks e here decls all hs ms a p =
    let whole : Puts h old new (sites_along h.decls.now h.door heads) → new ≡ old ++ sites_told f (door_sites f door) =
    told f door block h old new heads marks e here decls all hs ms a in
    on_ok_weaker r whole p

-- the sites of a port's two doors, one after the other
pub told_twice :
    {T E : Type 0} (r : Result T E) (f : Function) (port : ℕ) (old mid new : List Site) →
    mid ≡ old ++ sites_told f (door_sites f (record { port = port; family = Four })) →
    OnOk r (new ≡ mid ++ sites_told f (door_sites f (record { port = port; family = Six }))) →
    OnOk r (new ≡ old ++ sites_told f (flat_map (door_sites f) (doors_at port)))
told_twice r f port old mid new p q =
    let four = door_sites f (record { port = port; family = Four }) in
    let six = door_sites f (record { port = port; family = Six }) in
    let whole : new ≡ mid ++ sites_told f six → new ≡ old ++ sites_told f (flat_map (door_sites f) (doors_at port)) =
    λ e.
    e ∙ ap (λ m. m ++ sites_told f six) p ∙ append_assoc old (sites_told f four) (sites_told f six)
    ∙ ap (λ x. old ++ x) (sym (map-append (site_told f) four six) ∙ ap (λ x. sites_told f (four ++ x)) (sym (append-nil six))) in
    on_ok_weaker r whole q
