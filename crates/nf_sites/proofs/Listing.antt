-- The sites that are listed are those on feasible paths.
use Rattle.std.proofs.Common.{◌≡◌, ◌≢◌, ◌<◌, ◌==◌, ℕ, eq-eqb, eqb-true, Bool, true, List, [], ◌∷◌, length, map, Contains, Option, Some, None, slice_get, refl, sym, ◌∙◌, subst, inl, inr}
use Rattle.std.specs.List.{flat_map, list_any, range_with_len}
use Rattle.nf_base.specs.Doors.{blocks, handler_in, handler_at, doors_at, doors_of}
use Rattle.nf_base.specs.declared.packet.Door.{Door}
use Rattle.nf_base.specs.declared.packet.Family.{Family}
use Rattle.nf_base.specs.declared.packet.Family.TheVariants.{Four, Six}
use Rattle.std.specs.Option.{option_and_then}
use Rattle.nf_base.specs.Text.{Block, PortBlocks, Function}
use Rattle.nf_base.specs.Statements.{Statement, statements}
use Rattle.nf_base.specs.TextPlaces.{places_in, all_statements, HasPlaces}
use Rattle.nf_base.specs.Paths.{PathStep, paths}
use Rattle.path_walk.specs.Feasible.{is_feasible, handler_paths, door_paths}
use Rattle.nf_sites.specs.Sites.{Site, statement_sites}
use Rattle.nf_sites.specs.OnPaths.{statement_of, text_sites, path_sites, is_on, is_reached, handler_sites, door_sites, IsSite}
use Rattle.nf_sites.specs.Laws.{SitesOnPathsAreListed, ListedSitesAreOnPaths}
use Rattle.nf_laws.proofs.Doors.{at_door}
use Rattle.nf_laws.proofs.Listed.{here, there, has, has_none, kept, was, in_flat, from_flat}
use Rattle.nf_sites.proofs.Lists.{passes, any_true, any_has, from_map, to_map, in_range, within}
use Rattle.nf_sites.proofs.Pairs.{Pairs, from_all, right, across}
use Rattle.nf_sites.proofs.Placed.{of_statement}
use Rattle.nf_sites.proofs.OfText.{of_block}

abbrev reached : Function → Door → Site → Bool
reached f door x = is_reached f door x.place

-- a step's places are on its path
step_on : (place : ℕ) (path : List PathStep) (s : PathStep) → Contains path s → Contains (places_in (statement_of s)) place → is_on place path ≡ true
step_on place path s i j =
    any_true (λ (s : PathStep). list_any (λ n. n == place) (places_in (statement_of s))) path s i (any_true (λ n. n == place) (places_in (statement_of s)) place j (eq-eqb place place refl))

listed_at : (f : Function) (door : Door) (o : Option Block) (path : List PathStep) (x : Site) → handler_at f door ≡ o → Contains (handler_paths o) path → Contains (path_sites f.chains door path) x → Contains (handler_sites f door o) x
listed_at f door None path x e i j = absurd (has_none path i)
listed_at f door (Some block) path x e i j =
    let w = from_flat (statement_sites f.chains door) (map statement_of path) x j in
    let m = from_map statement_of path w.0 w.1 in
    let at = subst (λ (t : Statement). Contains (statement_sites f.chains door t) x) (sym m.2) w.2 in
    let s = of_block block path m.0 (was is_feasible (paths block ([] ∷ [])) path i) m.1 in
    kept (reached f door) (text_sites f.chains door block) x (in_flat (statement_sites f.chains door) (statements block) (statement_of m.0) x s at)
    (any_true (is_on x.place) (door_paths f door) path (subst (λ (o : Option Block). Contains (handler_paths o) path) (sym e) i) (step_on x.place path m.0 m.1 (of_statement f.chains door (statement_of m.0) x at).place))

-- a door with a handler is listed
at_port : (port : ℕ) (family : Family) → Contains (doors_at port) (record { port = port; family = family })
at_port port Four = here (record { port = port; family = Four }) (record { port = port; family = Six } ∷ [])
at_port port Six = there (record { port = port; family = Four }) (record { port = port; family = Six } ∷ []) (record { port = port; family = Six }) (here (record { port = port; family = Six }) [])

port_within : (family : Family) (hs : List PortBlocks) (port : ℕ) (o : Option PortBlocks) (block : Block) → slice_get hs port ≡ o → option_and_then (handler_in family) o ≡ Some block → port < length hs
port_within family hs port None block at e = cc
port_within family hs port (Some h) block at e = within hs port h at

listed_door : (f : Function) (door : Door) (block : Block) → handler_at f door ≡ Some block → Contains (doors_of f) door
listed_door f door block e =
    in_flat doors_at (range_with_len 0 (length f.handlers)) door.port door
    (in_range (length f.handlers) door.port (port_within door.family f.handlers door.port (slice_get f.handlers door.port) block refl e))
    (at_port door.port door.family)

handler_there : (f : Function) (door : Door) (o : Option Block) (path : List PathStep) → handler_at f door ≡ o → Contains (handler_paths o) path → Contains (doors_of f) door
handler_there f door None path e i = absurd (has_none path i)
handler_there f door (Some block) path e i = listed_door f door block e

pub on_paths_listed : SitesOnPathsAreListed
on_paths_listed f x s =
    let lt = handler_there f s.door (handler_at f s.door) s.path refl s.is_path in
    in_flat (door_sites f) (doors_of f) s.door x lt
    (listed_at f s.door (handler_at f s.door) s.path x refl s.is_path s.on_path)

-- two statements with one place are one
one_of : (ss : List Statement) (s t : Statement) (place : ℕ) → Pairs (λ (a b : ℕ). a ≢ b) (flat_map places_in ss) → Contains ss s → Contains ss t → Contains (places_in s) place → Contains (places_in t) place → s ≡ t
one_of [] s t place h i j a b = absurd (has_none s i)
one_of (u ∷ us) s t place h i j a b = elim (has u us s i) [
  | inl e ↦ elim (has u us t j) [
    | inl q ↦ sym e ∙ q
    | inr l ↦ absurd (across (λ (a b : ℕ). a ≢ b) (places_in u) (flat_map places_in us) place place h (subst (λ (x : Statement). Contains (places_in x) place) (sym e) a) (in_flat places_in us t place l b) refl)
  ]
  | inr k ↦ elim (has u us t j) [
    | inl q ↦ absurd (across (λ (a b : ℕ). a ≢ b) (places_in u) (flat_map places_in us) place place h (subst (λ (x : Statement). Contains (places_in x) place) (sym q) b) (in_flat places_in us s place k a) refl)
    | inr l ↦ one_of us s t place (right (λ (a b : ℕ). a ≢ b) (places_in u) (flat_map places_in us) h) k l a b
  ]
]

only_at : (f : Function) (door : Door) (o : Option Block) (x : Site) → HasPlaces f → handler_at f door ≡ o → Contains (handler_sites f door o) x → IsSite f x
only_at f door None x h e i = absurd (has_none x i)
only_at f door (Some block) x h e i =
    let text = was (reached f door) (text_sites f.chains door block) x i in
    let p = any_has (is_on x.place) (door_paths f door) (passes (reached f door) (text_sites f.chains door block) x i) in
    let q = any_has (λ (s : PathStep). list_any (λ n. n == x.place) (places_in (statement_of s))) p.0 p.2 in
    let r = any_has (λ n. n == x.place) (places_in (statement_of q.0)) q.2 in
    let at_step = subst (λ n. Contains (places_in (statement_of q.0)) n) (eqb-true r.0 x.place r.2) r.1 in
    let w = from_flat (statement_sites f.chains door) (statements block) x text in
    let in_block = of_block block p.0 q.0 (was is_feasible (paths block ([] ∷ [])) p.0 (subst (λ (o : Option Block). Contains (handler_paths o) p.0) e p.1)) q.1 in
    let in_handlers = at_door f door block e in
    let all : (s : Statement) → Contains (statements block) s → Contains (all_statements f) s = λ s j. in_flat statements (blocks f) block s in_handlers j in
    let same = one_of (all_statements f) w.0 (statement_of q.0) x.place (from_all (λ (a b : ℕ). a ≢ b) (flat_map places_in (all_statements f)) h.different) (all w.0 w.1) (all (statement_of q.0) in_block) (of_statement f.chains door w.0 x w.2).place at_step in
    record {
      door = door;
      path = p.0;
      is_path = p.1;
      on_path = in_flat (statement_sites f.chains door) (map statement_of p.0) (statement_of q.0) x (to_map statement_of p.0 q.0 q.1) (subst (λ (t : Statement). Contains (statement_sites f.chains door t) x) same w.2);
    }

pub listed_on_paths : ListedSitesAreOnPaths
listed_on_paths f x h i =
    let w = from_flat (door_sites f) (doors_of f) x i in
    only_at f w.0 (handler_at f w.0) x h refl w.2
