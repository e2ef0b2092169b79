-- The places of a function are numbered along its text, each number once, whatever the order of its handlers.
use Rattle.std.proofs.Common.{◌≡◌, ◌∙◌, ℕ, zero, suc, ◌+◌, ◌<◌, List, [], ◌∷◌, ◌++◌, Bool, true, false, ◌&&◌, eqb, Option, Some, None, map, arith, refl, sym, ap, subst}
use Rattle.std.specs.List.{All, flat_map, range_with_len}
use Rattle.std.specs.Option.{option_map}
use Rattle.std.specs.List.Sorted.{IsStrictlyIncreasing}
use Rattle.std.proofs.lemmas.Bool.Decides.{nat_tests}
use Rattle.std.proofs.lemmas.Grind.{flat_map-append}
use Rattle.std.proofs.lemmas.List.{append-nil}
use Rattle.nf_base.specs.Text.{Block, Function}
use Rattle.nf_base.specs.Statements.{Statement, statements}
use Rattle.nf_base.specs.Doors.{listed, port_blocks, doors_at}
use Rattle.nf_base.specs.declared.packet.Door.{Door}
use Rattle.nf_base.specs.declared.packet.Family.{Family}
use Rattle.nf_base.specs.declared.packet.Family.TheVariants.{Four, Six}
use Rattle.nf_base.specs.TextPlaces.{own_place, places_in, all_statements, HasPlaces}
use Rattle.nf_tree.specs.Tree as tree
use Rattle.nf_types.specs.declared.objects.Objects.{Objects}
use Rattle.nf_types.specs.declared.fault.TypingKind.TheVariants.{NoHandler}
use Rattle.nf_types.specs.Faults.{first, fault_if, each_behind, length_faults}
use Rattle.nf_types.specs.Fields.{same_family}
use Rattle.nf_types.specs.Places.{places}
use Rattle.nf_types.specs.Declarations.{no_objects, objects_of}
use Rattle.nf_types.specs.DeclarationFaults.{port_faults, declarations_faults}
use Rattle.nf_types.specs.Function.{is_at, all_places, block_at, checked_found, checked_at, four_at, six_at, port_at, function}
use Rattle.nf_types.specs.TextFaults.{handler_faults, lacks_handler, faults}
use Rattle.nf_types.proofs.First.{front_none, back_none}
use Rattle.nf_types.proofs.Spread.{Apart, apart_ranges, apart_sym, Differ, differ_all, differ_pairs, rises_increase, spread_none, Each, Pairwise, pairwise_map}
use Rattle.nf_types.proofs.Sized.{IsSized, all_sized}
use Rattle.nf_types.proofs.Fitting.{one_of, ports_hold}
use Rattle.nf_types.proofs.Placed.{two_of, IsPlaced, placed_wider, block_placed}

-- the doors of a port
abbrev four_door : ℕ → Door
four_door port = record { port = port; family = Four }

abbrev six_door : ℕ → Door
six_door port = record { port = port; family = Six }

-- the block of a port for a version of IP, and how many places stand before it
abbrev found_at : Door → ℕ → List tree.Handler → Option (ℕ × tree.Block)
found_at d before hs = block_at d.port d.family before hs

-- the statements of the block that was found
abbrev statements_at : Objects → Option (ℕ × tree.Block) → List Statement
statements_at o found = statements (checked_at o found)

abbrev places_at : Objects → Option (ℕ × tree.Block) → List ℕ
places_at o found = flat_map places_in (statements_at o found)

-- the block of a port for a version of IP has its places among those of the handlers
port_placed : (d : Door) (before : ℕ) (o : Objects) (hs : List tree.Handler) → All IsSized o.chains →
    IsPlaced before (before + all_places hs) (statements_at o (found_at d before hs))
port_placed d before o [] all = record { rising = omega arith; spread = spread_none before (before + 0) (omega arith) }
port_placed d before o (h ∷ hs) all =
    let mid = before + places h.block in
    let hi = before + (places h.block + all_places hs) in
    one_of (λ (found : Option (ℕ × tree.Block)). IsPlaced before hi (statements_at o found)) (is_at d.port d.family h) (Some (before, h.block)) (found_at d mid hs)
    (placed_wider before before mid hi (statements_at o (Some (before, h.block))) (omega arith) (omega arith) (block_placed before o [] h.block all))
    (placed_wider before mid (mid + all_places hs) hi (statements_at o (found_at d mid hs)) (omega arith) (omega arith) (port_placed d mid o hs all))

-- no handler is that of both
abbrev Other : Door → Door → Type 0
Other d e = (h : tree.Handler) → is_at d.port d.family h ≡ true → is_at e.port e.family h ≡ true → ⊥

both_hold : (a b : Bool) → (a && b) ≡ true → (a ≡ true) × (b ≡ true)
both_hold true b e = (refl, e)
both_hold false b e = cc

-- one handler is not that of two ports
ports_differ : (v p q : ℕ) → p < q → eqb v p ≡ true → eqb v q ≡ true → ⊥
ports_differ v p q lt e f =
    let a : v ≡ p = grind (arith, nat_tests, e) in
    let b : v ≡ q = grind (arith, nat_tests, f) in
    absurd (omega (arith, a, b, lt))

other_port : (d e : Door) → d.port < e.port → Other d e
other_port d e lt h a b =
    ports_differ h.port.value d.port e.port lt
    (both_hold (eqb h.port.value d.port) (same_family h.family d.family) a).0
    (both_hold (eqb h.port.value e.port) (same_family h.family e.family) b).0

-- nor that of two versions of IP
families_differ : (x : Family) → same_family x Four ≡ true → same_family x Six ≡ true → ⊥
families_differ Four e f = cc
families_differ Six e f = cc

other_family : (port : ℕ) → Other (four_door port) (six_door port)
other_family port h a b =
    families_differ h.family
    (both_hold (eqb h.port.value port) (same_family h.family Four) a).1
    (both_hold (eqb h.port.value port) (same_family h.family Six) b).1

doors_apart : (d e : Door) (before : ℕ) (o : Objects) (hs : List tree.Handler) → All IsSized o.chains → Other d e →
    Apart (places_at o (found_at d before hs)) (places_at o (found_at e before hs))
doors_apart d e before o [] all other = tt
doors_apart d e before o (h ∷ hs) all other =
    let mid = before + places h.block in
    let end = mid + all_places hs in
    let here : Option (ℕ × tree.Block) = Some (before, h.block) in
    let first = (block_placed before o [] h.block all).spread in
    let of_d = (port_placed d mid o hs all).spread in
    let of_e = (port_placed e mid o hs all).spread in
    two_of (λ (f g : Option (ℕ × tree.Block)). Apart (places_at o f) (places_at o g)) (is_at d.port d.family h) (is_at e.port e.family h)
    here (found_at d mid hs) here (found_at e mid hs)
    (λ a b. absurd (other h a b))
    (apart_ranges before mid end (places_at o here) (places_at o (found_at e mid hs)) first.within of_e.within)
    (apart_sym (places_at o (found_at d mid hs)) (places_at o here)
    (apart_ranges before mid end (places_at o here) (places_at o (found_at d mid hs)) first.within of_d.within))
    (doors_apart d e mid o hs all other)

-- the doors one by one, each another than the later ones
all_above : (d : Door) (a n : ℕ) → d.port < a → Each (Other d) (flat_map doors_at (range_with_len a n))
all_above d a zero lt = tt
all_above d a (suc n) lt = (other_port d (four_door a) lt, (other_port d (six_door a) lt, all_above d (a + 1) n (omega (arith, lt))))

doors_rise : (a n : ℕ) → Pairwise Other (flat_map doors_at (range_with_len a n))
doors_rise a zero = tt
doors_rise a (suc n) = (
  (other_family a, all_above (four_door a) (a + 1) n (omega arith)),
  (all_above (six_door a) (a + 1) n (omega arith), doors_rise (a + 1) n),
)

-- the places of some handlers, handler by handler
abbrev door_places : Objects → List tree.Handler → Door → List ℕ
door_places o hs d = places_at o (found_at d 0 hs)

-- a handler that may not be there has no places where it is not
listed_places : (o : Objects) (found : Option (ℕ × tree.Block)) →
    flat_map places_in (flat_map statements (listed (option_map (checked_found o) found))) ≡ places_at o found
listed_places o None = refl
listed_places o (Some found) = ap (flat_map places_in) (append-nil (statements (checked_found o found)))

same_places : (o : Objects) (hs : List tree.Handler) (ports : List ℕ) →
    flat_map places_in (flat_map statements (flat_map port_blocks (map (port_at o hs) ports))) ≡ flat_map (door_places o hs) (flat_map doors_at ports)
unfolding four_at six_at
same_places o hs [] = refl
same_places o hs (port ∷ ports) =
    let rest = flat_map port_blocks (map (port_at o hs) ports) in
    let six = listed (six_at o hs port) in
    flat_map-append places_in (statements (four_at o hs port)) (flat_map statements (six ++ rest))
    ∙ ap (λ more. door_places o hs (four_door port) ++ more)
    (ap (flat_map places_in) (flat_map-append statements six rest)
    ∙ flat_map-append places_in (flat_map statements six) (flat_map statements rest)
    ∙ ap (λ (front : List ℕ). front ++ flat_map places_in (flat_map statements rest)) (listed_places o (found_at (six_door port) 0 hs))
    ∙ ap (λ more. door_places o hs (six_door port) ++ more) (same_places o hs ports))

handlers_differ : (o : Objects) (hs : List tree.Handler) (count : ℕ) → All IsSized o.chains →
    Differ (flat_map (door_places o hs) (flat_map doors_at (range_with_len 0 count)))
handlers_differ o hs count all =
    let doors = flat_map doors_at (range_with_len 0 count) in
    let f = door_places o hs in
    let pairs : Pairwise (λ d e. Apart (f d) (f e)) doors =
    pairwise_map Other (λ d e. Apart (f d) (f e)) doors (λ d e other. doors_apart d e 0 o hs all other) (doors_rise 0 count) in
    differ_all f doors (λ d. (port_placed d 0 o hs all).spread.differ) pairs

-- the places of one handler rise
abbrev HandlerRises : Block → Type 0
HandlerRises b = IsStrictlyIncreasing (flat_map own_place (statements b))

handler_rises : (o : Objects) (hs : List tree.Handler) (d : Door) → All IsSized o.chains → HandlerRises (checked_at o (found_at d 0 hs))
handler_rises o hs d all =
    rises_increase 0 (0 + all_places hs) (flat_map own_place (statements_at o (found_at d 0 hs))) (port_placed d 0 o hs all).rising

text_has_places : (t : tree.Tree) → All IsSized (objects_of t.declarations).chains → HasPlaces (function t)
text_has_places t all =
    let o = objects_of t.declarations in
    let ports = range_with_len 0 t.ports.value in
    record {
      rising = ports_hold HandlerRises o t.handlers
          (λ port family. handler_rises o t.handlers (record { port = port; family = family }) all) ports;
      different = differ_pairs (flat_map places_in (all_statements (function t)))
          (subst Differ (sym (same_places o t.handlers ports)) (handlers_differ o t.handlers t.ports.value all));
    }

sized : (t : tree.Tree) → first (faults t) ≡ None → All IsSized (objects_of t.declarations).chains
sized t e =
    let name = length_faults t.name in
    let ports = port_faults t.ports in
    let declared = declarations_faults no_objects t.declarations in
    let handlers = each_behind (handler_faults t.ports.value (objects_of t.declarations)) [] t.handlers in
    let rest = handlers ++ fault_if (lacks_handler t.ports.value t.handlers) NoHandler t.end in
    all_sized t.declarations (front_none declared rest (back_none ports (declared ++ rest) (back_none name (ports ++ (declared ++ rest)) e)))

-- the function of a text in which nothing is wrong
pub has_places : (f : Function) (t : tree.Tree) → first (faults t) ≡ None → f ≡ function t → HasPlaces f
has_places f t e same = subst HasPlaces (sym same) (text_has_places t (sized t e))
