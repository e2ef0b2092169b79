-- Each port of a text that breaks no rule has a handler, and where handlers stand.
use Rattle.std.proofs.Common.{◌≡◌, ◌<◌, ◌+◌, ℕ, zero, suc, Bool, true, false, not, ◌||◌, ◌&&◌, ◌==◌, if◌then◌else◌, List, [], ◌∷◌, ◌++◌, length, map, Contains, get_or, slice_get, Option, Some, None, refl, ap, sym, ◌∙◌, subst, arith}
use Rattle.std.specs.List.{list_any, range_with_len}
use Rattle.std.specs.Option.{option_map, option_and_then}
use Rattle.std.proofs.lemmas.Bool.{eqb-true}
use Rattle.std.proofs.lemmas.List.FromFn.{length-map-range_with_len, get_or-map-range_with_len}
use Rattle.std.proofs.lemmas.Option.{slice_get-get_or}
use Rattle.nf_tokens.specs.declared.token.Place.{Place}
use Rattle.nf_base.specs.Text.{Block as TextBlock, PortBlocks}
use Rattle.nf_base.specs.Doors.{handler_in}
use Rattle.nf_base.specs.declared.packet.Door.{Door}
use Rattle.nf_base.specs.declared.packet.Family.{Family}
use Rattle.nf_base.specs.declared.packet.Family.TheVariants.{Four, Six}
use Rattle.nf_tree.specs.Tree.{Tree, Handler}
use Rattle.nf_tree.specs.View.{handler_of}
use Rattle.nf_tree.specs.declared.handler.HandlerTree.{HandlerTree}
use Rattle.path_walk.specs.Feasible.{handler_paths}
use Rattle.call_base.specs.Source.{path_count, IsHandlerPlace}
use Rattle.nf_types.specs.declared.fault.TypingKind.{TypingKind}
use Rattle.nf_types.specs.declared.fault.Fault.{Fault}
use Rattle.nf_types.specs.Faults.{fault_if, each_behind, length_faults}
use Rattle.nf_types.specs.declared.objects.Objects.{Objects}
use Rattle.nf_types.specs.Declarations.{objects_of, no_objects}
use Rattle.nf_types.specs.Fields.{same_family}
use Rattle.nf_types.specs.Places.{places}
use Rattle.nf_types.specs.DeclarationFaults.{port_faults, declarations_faults}
use Rattle.nf_types.specs.Function.{function, is_at, block_at, checked_found, six_at, port_at}
use Rattle.nf_types.specs.TextFaults.{is_handled, lacks_handler, handler_faults, faults}

pub none_behind : (xs ys : List Fault) → xs ++ ys ≡ [] → ys ≡ []
none_behind [] ys e = e
none_behind (x ∷ xs) ys e = cc

pub none_if : (b : Bool) (kind : TypingKind) (place : Place) → fault_if b kind place ≡ [] → b ≡ false
none_if true kind place e = cc
none_if false kind place e = refl

none_lacks : (t : Tree) → faults t ≡ [] → lacks_handler t.ports.value t.handlers ≡ false
none_lacks t e =
    none_if (lacks_handler t.ports.value t.handlers) _ t.end
    (none_behind (each_behind (handler_faults t.ports.value (objects_of t.declarations)) [] t.handlers) _
    (none_behind (declarations_faults no_objects t.declarations) _
    (none_behind (port_faults t.ports) _
    (none_behind (length_faults t.name) _ e))))

pub or_false : (a b : Bool) → (a || b) ≡ false → (a ≡ false) × (b ≡ false)
or_false true b e = cc
or_false false b e = (refl, e)

not_false : (b : Bool) → not b ≡ false → b ≡ true
not_false true e = refl
not_false false e = cc

each_false : (p : ℕ → Bool) (first count k : ℕ) → list_any p (range_with_len first count) ≡ false → k < count → p (first + k) ≡ false
each_false p first zero k e lt = absurd (omega arith)
each_false p first (suc count) zero e lt =
    let same : first + 0 ≡ first = omega arith in
    ap p same ∙ (or_false (p first) (list_any p (range_with_len (first + 1) count)) e).0
each_false p first (suc count) (suc k) e lt =
    let same : first + suc k ≡ first + 1 + k = omega arith in
    ap p same ∙ each_false p (first + 1) count k (or_false (p first) (list_any p (range_with_len (first + 1) count)) e).1 (omega arith)

-- how many ports a function has
ports_are : (t : Tree) → length (function t).handlers ≡ t.ports.value
ports_are t = length-map-range_with_len (port_at (objects_of t.declarations) t.handlers) 0 t.ports.value

pub all_handled : (t : Tree) (port : ℕ) → faults t ≡ [] → port < length (function t).handlers → is_handled port Four t.handlers ≡ true
all_handled t port e lt =
    let n = ports_are t in
    let same : 0 + port ≡ port = omega arith in
    not_false (is_handled port Four t.handlers)
    (sym (ap (λ k. not (is_handled k Four t.handlers)) same) ∙ each_false (λ k. not (is_handled k Four t.handlers)) 0 t.ports.value port (none_lacks t e) (omega arith))

none_found : (port : ℕ) (family : Family) (before : ℕ) (hs : List Handler) → is_handled port family hs ≡ false → block_at port family before hs ≡ None
none_found port family before [] e = refl
none_found port family before (h ∷ hs) e =
    let parts = or_false (is_at port family h) (is_handled port family hs) e in
    if_not (is_at port family h) (Some (before, h.block)) (block_at port family (before + places h.block) hs) parts.0
    ∙ none_found port family (before + places h.block) hs parts.1
  where
    if_not : {A : Type 0} (b : Bool) (x y : A) → b ≡ false → (if b then x else y) ≡ y
    if_not true x y e = cc
    if_not false x y e = refl

none_six : (o : Objects) (hs : List Handler) (port : ℕ) → is_handled port Six hs ≡ false → six_at o hs port ≡ None
unfolding six_at
none_six o hs port e = ap (option_map (checked_found o)) (none_found port Six 0 hs e)

-- the handlers of a port of a text's function
port_is : (t : Tree) (port : ℕ) → port < length (function t).handlers → slice_get (function t).handlers port ≡ Some (port_at (objects_of t.declarations) t.handlers port)
port_is t port lt =
    let own = port_at (objects_of t.declarations) t.handlers in
    slice_get-get_or (function t).handlers port (own port) lt
    ∙ ap Some (get_or-map-range_with_len own 0 t.ports.value port port (own port) (omega (arith, ports_are t)) (omega arith))

-- a handler for IPv6 that has paths stands in the text
pub six_handled : (t : Tree) (port : ℕ) → port < length (function t).handlers → 0 < path_count (function t) (record { port = port; family = Six }) → is_handled port Six t.handlers ≡ true
six_handled t port lt some = by_case (is_handled port Six t.handlers) refl
  where
    by_case : (b : Bool) → is_handled port Six t.handlers ≡ b → b ≡ true
    by_case true e = refl
    by_case false e =
        let none : path_count (function t) (record { port = port; family = Six }) ≡ 0 =
        ap (λ (h : Option PortBlocks). length (handler_paths (option_and_then (handler_in Six) h))) (port_is t port lt)
        ∙ ap (λ (h : Option TextBlock). length (handler_paths h)) (none_six (objects_of t.declarations) t.handlers port e) in
        absurd (omega (arith, some, none))

-- a handler that has paths stands in the text
pub door_handled : (t : Tree) (door : Door) → faults t ≡ [] → door.port < length (function t).handlers → 0 < path_count (function t) door → is_handled door.port door.family t.handlers ≡ true
door_handled t door e lt some = by_family door.family refl
  where
    by_family : (family : Family) → door.family ≡ family → is_handled door.port family t.handlers ≡ true
    by_family Four same = all_handled t door.port e lt
    by_family Six same = six_handled t door.port lt (subst (λ (g : Family). 0 < path_count (function t) (record { port = door.port; family = g })) same some)

here : {A : Type 0} (x : A) (xs : List A) → Contains (x ∷ xs) x
here x xs = (0, omega arith, refl)

there : {A : Type 0} (y : A) (xs : List A) (x : A) → Contains xs x → Contains (y ∷ xs) x
there y xs x h = let lt = h.1 in (suc h.0, omega arith, h.2)

among : (hs : List HandlerTree) (i : ℕ) (one : HandlerTree) → i < length hs → one ≡ get_or hs i one → Contains (map handler_of hs) (handler_of one)
among [] i one lt at = absurd (omega arith)
among (h ∷ hs) zero one lt at = subst (λ (x : HandlerTree). Contains (map handler_of (h ∷ hs)) (handler_of x)) (sym at) (here (handler_of h) (map handler_of hs))
among (h ∷ hs) (suc i) one lt at = there (handler_of h) (map handler_of hs) (handler_of one) (among hs i one (omega arith) at)

and_true : (a b : Bool) → (a && b) ≡ true → (a ≡ true) × (b ≡ true)
and_true true b e = (refl, e)
and_true false b e = cc

families_same : (f g : Family) → same_family f g ≡ true → f ≡ g
families_same Four Four e = refl
families_same Four Six e = cc
families_same Six Four e = cc
families_same Six Six e = refl

-- a handler of a port for a family
at_parts : (port : ℕ) (family : Family) (h : Handler) → is_at port family h ≡ true → (h.port.value ≡ port) × (h.family ≡ family)
at_parts port family h e =
    let parts = and_true (h.port.value == port) (same_family h.family family) e in
    (eqb-true h.port.value port parts.0, families_same h.family family parts.1)

-- a handler stands where its tree says
pub handler_place_is : (hs : List HandlerTree) (i : ℕ) (one : HandlerTree) (door : Door) → i < length hs → one ≡ get_or hs i one → is_at door.port door.family (handler_of one) ≡ true → IsHandlerPlace (map handler_of hs) door one.place
handler_place_is hs i one door lt at same =
    let parts = at_parts door.port door.family (handler_of one) same in
    record { handler = handler_of one; among = among hs i one lt at; of_port = parts.0; of_family = parts.1; at = refl }
