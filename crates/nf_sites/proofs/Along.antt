-- The path that a packet takes is of the text, and its sites are the function's.
use Rattle.std.proofs.Common.{◌≡◌, ℕ, zero, suc, ◌^◌, ◌%◌, Bool, true, false, ◌==◌, eq-eqb, List, [], ◌∷◌, map, Contains, Option, Some, None, slice_get, if◌then◌else◌, refl, sym, ◌∙◌, subst}
use Rattle.std.specs.List.{list_all}
use Rattle.std.proofs.lemmas.List.Elements.{Contains-append_left, Contains-append_right}
use Rattle.nf_base.specs.Doors.{blocks, handler_at}
use Rattle.nf_base.specs.Values.{field_of, field_width, bits}
use Rattle.nf_base.specs.declared.packet.Field.{Field}
use Rattle.nf_base.specs.Families.{door_of, door_for}
use Rattle.nf_base.specs.declared.packet.Packet.{Packet}
use Rattle.nf_base.specs.declared.packet.Fields.{Fields}
use Rattle.nf_base.specs.declared.state.State.{State}
use Rattle.nf_base.specs.Text.{Given, Creation, Block, Function}
use Rattle.nf_base.specs.Statements.{Makes, statements}
use Rattle.nf_base.specs.Context.{Context, Input, given, or_zero}
use Rattle.nf_base.specs.Operations.{never}
use Rattle.nf_base.specs.Course.{route}
use Rattle.nf_base.specs.Paths.{PathStep, Doing, Asking, Making, Closing}
use Rattle.nf_base.specs.Step.{input, start_context, routes, route_of}
use Rattle.nf_base.specs.declared.hash_fields.Hashable.{Hashable}
use Rattle.nf_base.specs.Hashed as hash
use Rattle.path_walk.specs.Feasible.{handler_paths}
use Rattle.path_walk.proofs.Taken.{courses_feasible}
use Rattle.nf_laws.proofs.Listed.{here, there, has_none}
use Rattle.nf_laws.proofs.Doors.{at_door}
use Rattle.nf_laws.proofs.Walked.{courses_walk}
use Rattle.nf_sites.specs.Sites.{Site, statement_sites}
use Rattle.nf_sites.specs.OnPaths.{statement_of, path_sites, sites_of}
use Rattle.nf_sites.specs.Known.{field_at, sets_alike}
use Rattle.nf_sites.specs.Covers.{AreTogether}
use Rattle.nf_sites.proofs.Lists.{all_has}
use Rattle.nf_sites.proofs.OfText.{of_block}
use Rattle.nf_sites.proofs.Listing.{on_paths_listed}
use Rattle.nf_sites.proofs.Fields.{set_value, one_field}
use Rattle.nf_sites.proofs.Keeping.{View, input_of}
use Rattle.nf_sites.proofs.Courses.{In, IsOfText, On}

-- labels that are together are given one value by each `new`
label_given : (p : Input) (c : Context) (gs : List Given) (l : ℕ) (h : Field) → field_at gs l ≡ Some h → or_zero (slice_get (map (given p c) gs) l) ≡ field_of p.time p.fields h % 2 ^ bits (field_width h)
label_given p c [] l h e = cc
label_given p c (g ∷ gs) zero h e = set_value p c g h e
label_given p c (g ∷ gs) (suc l) h e = label_given p c gs l h e

when_same : (b x : Bool) → b ≡ true → (if b then x else true) ≡ true → x ≡ true
when_same true x t e = e
when_same false x t e = cc

alike : (v : View) (block : Block) (n : Creation) (c : Context) → Contains (blocks v.f) block → Contains (statements block) (Makes n) → AreTogether v.f n.chain (map (given (input_of v) c) n.labels)
alike v block n c hb hn l r t =
    let one = all_has (sets_alike n.chain l r) (statements block) (Makes n) (all_has (λ b. list_all (sets_alike n.chain l r) (statements b)) (blocks v.f) block t hb) hn in
    let w = one_field (field_at n.labels l) (field_at n.labels r) (when_same (n.chain == n.chain) _ (eq-eqb n.chain n.chain refl) one) in
    label_given (input_of v) c n.labels l w.0 w.1 ∙ sym (label_given (input_of v) c n.labels r w.0 w.2)

one_text : (v : View) (block : Block) (s : PathStep) → Contains (blocks v.f) block → Contains (statements block) (statement_of s) → IsOfText v s
one_text v block (Doing op) hb hs = tt
one_text v block (Asking q b) hb hs = tt
one_text v block (Making n b) hb hs = λ c. alike v block n c hb hs
one_text v block (Closing e) hb hs = tt

on_each : (v : View) (block : Block) (ss : List PathStep) → Contains (blocks v.f) block → ((s : PathStep) → Contains ss s → Contains (statements block) (statement_of s)) → In v.all (path_sites v.f.chains v.door ss) → On v ss
on_each v block [] hb a h = tt
on_each v block (s ∷ ss) hb a h =
    let here_sites = statement_sites v.f.chains v.door (statement_of s) in
    let later = path_sites v.f.chains v.door ss in (
      λ x i. h x (Contains-append_left here_sites later x i),
      one_text v block s hb (a s (here s ss)),
      on_each v block ss hb (λ t i. a t (there s ss t i)) (λ x i. h x (Contains-append_right here_sites later x i)),
    )

-- a path that a block takes, where the sites of the view are those on it
pub on_route : (v : View) (block : Block) (c : Context) → handler_at v.f v.door ≡ Some block → v.all ≡ path_sites v.f.chains v.door (route never (input_of v) block c (λ _. [])) → On v (route never (input_of v) block c (λ _. []))
on_route v block c at same =
    let path = route never (input_of v) block c (λ _. []) in
    on_each v block path (at_door v.f v.door block at) (λ s i. of_block block path s (courses_walk never (input_of v) block c) i) (λ x i. subst (λ (xs : List Site). Contains xs x) (sym same) i)

-- its sites are the function's
of_handler : (f : Function) (s : State) (packet : Packet) (choices : List ℕ) (fields : Fields) (handler : Option Block) (x : Site) → handler_at f (door_of packet.id.port fields) ≡ handler →
    Contains (path_sites f.chains (door_of packet.id.port fields) (routes never f s packet.time fields choices handler)) x → Contains (sites_of f) x
of_handler f s packet choices fields None x e h = absurd (has_none x h)
of_handler f s packet choices fields (Some block) x e h =
    let p = input f packet.time fields in
    let c = start_context f s packet.time choices in
    let path = route never p block c (λ _. []) in
    on_paths_listed f x (record {
      door = door_of packet.id.port fields;
      path = path;
      is_path = subst (λ (o : Option Block). Contains (handler_paths o) path) (sym e) (courses_feasible never p block c);
      on_path = h;
    })

pub of_function : (f : Function) (s : State) (packet : Packet) (choices : List ℕ) (fields : Option Fields) (x : Site) → Contains (path_sites f.chains (door_for packet.id.port fields) (route_of never f s packet choices fields)) x → Contains (sites_of f) x
of_function f s packet choices None x h = absurd (has_none x h)
of_function f s packet choices (Some fields) x h = of_handler f s packet choices fields (handler_at f (door_of packet.id.port fields)) x refl h
