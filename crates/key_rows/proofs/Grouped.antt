-- Keyed ports, and the groups of bits of which one has to be 1.
use Rattle.std.proofs.Common.{◌≡◌, ◌↔◌, ℕ, ◌+◌, ◌-◌, ◌*◌, ◌/◌, ◌%◌, ◌<◌, ◌≤◌, ◌==◌, ◌&&◌, Bool, true, false, refl, ap, sym, ◌∙◌, List, [], ◌∷◌, ◌++◌, All, arith, length, replicate, get_or, subst, inl, inr}
use Rattle.std.specs.List.{list_any, list_all, Any}
use Rattle.std.proofs.lemmas.Bool.{eqb-true, eq-eqb, cases_eq, cases_lt, true≢false, and_parts, and_cases, or_left, or_right, ltb-true, ltb-false, both_ways}
use Rattle.std.proofs.lemmas.List.{length-replicate, get_or-replicate, get_or_append_left, get_or-append_right, get_or_past, length-append}
use Rattle.std.proofs.lemmas.List.Folds.{Any-from_list_any, list_any_at}
use Rattle.std.proofs.lemmas.List.Elements.{All-nil, All-cons}
use Rattle.nf_base.specs.declared.card.TableSize.{TableSize}
use Rattle.nf_base.specs.declared.card.TableSize.TheVariants.{Entries128, Entries512}
use Rattle.nf_base.specs.Cards.{index_bits}
use Rattle.nf_base.specs.declared.keys.Keys.{Keys}
use Rattle.toeplitz_hash.specs.Bits.{bit_of}
use Rattle.toeplitz_hash.specs.Packets.{key_at}
use Rattle.gf2_solve.specs.Sums.{bit}
use Rattle.gf2_solve.specs.Solutions.{Meets}
use Rattle.key_rows.specs.declared.place.Place.{Place}
use Rattle.key_rows.specs.declared.place.Object.{Object}
use Rattle.key_rows.specs.Keyed.{is_at, is_keyed, version, is_for, is_keyed_for, is_before, are_at_ports, AreAtPorts}
use Rattle.key_rows.specs.Spread.{Spreads}
use Rattle.key_rows.specs.Places.{input_bits}
use Rattle.nf_base.specs.declared.packet.Family.{Family}
use Rattle.nf_base.specs.declared.packet.Family.TheVariants.{Four, Six}
use Rattle.key_rows.specs.Rows.{numbered_bit, bits_of}
use Rattle.key_rows.specs.Systems.{group_from, group_long, group_of, AddsGroup, AreGroupsOf}
use Rattle.key_rows.proofs.Added.{bit_of_bits, with_one}

-- a place of an object at a port
pub record IsKeyedBy (objects : List Object) (port : ℕ) : Type 0 where
  pub i : ℕ
  pub object : Object
  pub within : i < length objects
  pub is : get_or objects i object ≡ object
  pub j : ℕ
  pub place : Place
  pub inside : j < length object.places
  pub stands : get_or object.places j place ≡ place
  pub here : place.port ≡ port

pub keyed_by : (objects : List Object) (port : ℕ) → is_keyed objects port ≡ true → IsKeyedBy objects port
keyed_by objects port keyed =
    let one : Any (λ object. list_any (is_at port) object.places ≡ true) objects = Any-from_list_any (λ object. list_any (is_at port) object.places) objects keyed in
    let two : Any (λ place. is_at port place ≡ true) one.1.places = Any-from_list_any (is_at port) one.1.places one.4 in
    record {
      i = one.0;
      object = one.1;
      within = one.2;
      is = one.3;
      j = two.0;
      place = two.1;
      inside = two.2;
      stands = two.3;
      here = eqb-true two.1.port port two.4;
    }

pub keyed_at : (objects : List Object) (i j : ℕ) (o : Object) (p : Place) → i < length objects → j < length (get_or objects i o).places → is_keyed objects (get_or (get_or objects i o).places j p).port ≡ true
keyed_at objects i j o p within inside =
    let port : ℕ = (get_or (get_or objects i o).places j p).port in
    list_any_at (λ object. list_any (is_at port) object.places) objects i o within
    (list_any_at (is_at port) (get_or objects i o).places j p inside (eq-eqb port port refl))

pub keyed_within : (objects : List Object) (port ports : ℕ) → All (λ object. AreAtPorts ports object.places) objects → is_keyed objects port ≡ true → port < ports
keyed_within objects port ports all keyed =
    let by : IsKeyedBy objects port = keyed_by objects port keyed in
    let of_object : AreAtPorts ports by.object.places = subst (λ (o : Object). AreAtPorts ports o.places) by.is (all by.i by.object by.within) in
    let of_place : by.place.port < ports = subst (λ (p : Place). p.port < ports) by.stands (of_object by.j by.place by.inside) in
    subst (λ (m : ℕ). m < ports) by.here of_place

all_before : (ports : ℕ) (places : List Place) → list_all (is_before ports) places ≡ true → AreAtPorts ports places
all_before ports [] all = All-nil (λ place. place.port < ports)
all_before ports (p ∷ places) all =
    let both = and_parts (is_before ports p) (list_all (is_before ports) places) all in
    All-cons (λ place. place.port < ports) p places (ltb-true p.port ports both.0) (all_before ports places both.1)

pub all_at_ports : (ports : ℕ) (objects : List Object) → are_at_ports ports objects ≡ true → All (λ object. AreAtPorts ports object.places) objects
all_at_ports ports [] all = All-nil (λ object. AreAtPorts ports object.places)
all_at_ports ports (o ∷ objects) all =
    let both = and_parts (list_all (is_before ports) o.places) (are_at_ports ports objects) all in
    All-cons (λ object. AreAtPorts ports object.places) o objects (all_before ports o.places both.0) (all_at_ports ports objects both.1)

-- a keyed port past the last one
pub record IsKeyedPast (objects : List Object) (ports : ℕ) : Type 0 where
  pub port : ℕ
  pub past : ports ≤ port
  pub keyed : is_keyed objects port ≡ true

one_past : (ports : ℕ) (places : List Place) → list_all (is_before ports) places ≡ false → (port : ℕ) × (ports ≤ port) × (list_any (is_at port) places ≡ true)
one_past ports [] none = absurd (true≢false none)
one_past ports (p ∷ places) none =
    elim (and_cases (is_before ports p) (list_all (is_before ports) places) none) [
      | inl here ↦ (p.port, ltb-false p.port ports here, or_left (is_at p.port p) (list_any (is_at p.port) places) (eq-eqb p.port p.port refl))
      | inr later ↦
          let found = one_past ports places later in
          (found.0, found.1, or_right (is_at found.0 p) (list_any (is_at found.0) places) found.2)
    ]

pub keyed_past : (ports : ℕ) (objects : List Object) → are_at_ports ports objects ≡ false → IsKeyedPast objects ports
keyed_past ports [] none = absurd (true≢false none)
keyed_past ports (o ∷ objects) none =
    elim (and_cases (list_all (is_before ports) o.places) (are_at_ports ports objects) none) [
      | inl here ↦
          let found = one_past ports o.places here in
          record { port = found.0; past = found.1; keyed = or_left (list_any (is_at found.0) o.places) (is_keyed objects found.0) found.2 }
      | inr later ↦
          let found : IsKeyedPast objects ports = keyed_past ports objects later in
          record { port = found.port; past = found.past; keyed = or_right (list_any (is_at found.port) o.places) (is_keyed objects found.port) found.keyed }
    ]

-- a port that is keyed for a family is keyed
pub keyed_for_keyed : (objects : List Object) (family : Family) (port : ℕ) → is_keyed_for objects family port ≡ true → is_keyed objects port ≡ true
keyed_for_keyed objects family port keyed =
    let one : Any (λ object. list_any (is_for family port) object.places ≡ true) objects = Any-from_list_any (λ object. list_any (is_for family port) object.places) objects keyed in
    let two : Any (λ place. is_for family port place ≡ true) one.1.places = Any-from_list_any (is_for family port) one.1.places one.4 in
    let here : is_at port two.1 ≡ true = (and_parts (version two.1.family == version family) (two.1.port == port) two.4).1 in
    let inside : list_any (is_at port) one.1.places ≡ true =
    list_any_at (is_at port) one.1.places two.0 two.1 two.2 (subst (λ (p : Place). is_at port p ≡ true) (sym two.3) here) in
    list_any_at (λ object. list_any (is_at port) object.places) objects one.0 one.1 one.2 (subst (λ (o : Object). list_any (is_at port) o.places ≡ true) (sym one.3) inside)

pub both_true : (a b : Bool) → a ≡ true → b ≡ true → a && b ≡ true
both_true a b e d = ap (λ x. x && b) e ∙ d

-- and a keyed port is keyed for a family
pub keyed_some : (objects : List Object) (port : ℕ) → is_keyed objects port ≡ true → (family : Family) × (is_keyed_for objects family port ≡ true)
keyed_some objects port keyed =
    let by : IsKeyedBy objects port = keyed_by objects port keyed in
    let family : Family = by.place.family in
    let here : is_for family port by.place ≡ true =
    both_true (version family == version family) (by.place.port == port) (eq-eqb (version family) (version family) refl) (eq-eqb by.place.port port by.here) in
    let inside : list_any (is_for family port) by.object.places ≡ true =
    list_any_at (is_for family port) by.object.places by.j by.place by.inside (subst (λ (p : Place). is_for family port p ≡ true) (sym by.stands) here) in
    (family, list_any_at (λ object. list_any (is_for family port) object.places) objects by.i by.object by.within (subst (λ (o : Object). list_any (is_for family port) o.places ≡ true) (sym by.is) inside))

-- where a group begins, and how long it is
long_is : (size : TableSize) (f : Family) → input_bits f + 31 ≡ group_from size + group_long size f
long_is Entries128 Four = refl
long_is Entries128 Six = refl
long_is Entries512 Four = refl
long_is Entries512 Six = refl

inputs_most : (f : Family) → input_bits f + 31 ≤ 319
inputs_most Four = omega arith
inputs_most Six = omega arith

-- it ends within a port's bits
long_most : (size : TableSize) (f : Family) → group_from size + group_long size f ≤ 319
long_most size f = omega (arith, inputs_most f, long_is size f)

-- the bits of a group
group_in : (size : TableSize) (f : Family) (port m : ℕ) → 319 * port + group_from size ≤ m → m < 319 * port + group_from size + group_long size f → bit (group_of size f port) m ≡ true
group_in size f port m low high =
    get_or-append_right (replicate (319 * port + group_from size) false) (replicate (group_long size f) true) (319 * port + group_from size) m false (length-replicate {A = Bool} (319 * port + group_from size) false) low
    ∙ get_or-replicate {A = Bool} (group_long size f) (m - (319 * port + group_from size)) true false (omega arith)

group_before : (size : TableSize) (f : Family) (port m : ℕ) → m < 319 * port + group_from size → bit (group_of size f port) m ≡ false
group_before size f port m low =
    get_or_append_left (replicate (319 * port + group_from size) false) (replicate (group_long size f) true) false m (omega (arith, length-replicate {A = Bool} (319 * port + group_from size) false))
    ∙ get_or-replicate {A = Bool} (319 * port + group_from size) m false false low

group_past : (size : TableSize) (f : Family) (port m : ℕ) → 319 * port + group_from size + group_long size f ≤ m → bit (group_of size f port) m ≡ false
group_past size f port m high =
    let one = length-append (replicate (319 * port + group_from size) false) (replicate (group_long size f) true) in
    let two = length-replicate {A = Bool} (319 * port + group_from size) false in
    let three = length-replicate {A = Bool} (group_long size f) true in
    get_or_past (group_of size f port) m false (omega (arith, one, two, three))

-- The bits of keys have a 1 in the group of a port exactly where its key spreads.
pub meets_is_spreads : (size : TableSize) (f : Family) (ports port : ℕ) (keys : Keys) → port < ports → Meets (bits_of ports keys) (group_of size f port) ↔ Spreads f (index_bits size) (key_at keys port)
meets_is_spreads size f ports port keys within = (spreads, meets)
  where
    spreads : Meets (bits_of ports keys) (group_of size f port) → Spreads f (index_bits size) (key_at keys port)
    spreads met =
        elim (cases_lt met.place (319 * port + group_from size)) [
          | inl low ↦ absurd (both_ways (bit (group_of size f port) met.place) (group_before size f port met.place low) met.member)
          | inr from ↦
              elim (cases_lt met.place (319 * port + group_from size + group_long size f)) [
                | inr high ↦ absurd (both_ways (bit (group_of size f port) met.place) (group_past size f port met.place high) met.member)
                | inl to ↦
                    let most : group_from size + group_long size f ≤ 319 = long_most size f in
                    let one : (numbered_bit keys met.place == 1) ≡ true = sym (bit_of_bits ports keys met.place (omega (arith, most, to, within))) ∙ met.one in
                    let there : met.place / 319 ≡ port = omega (arith, most, to, from) in
                    record {
                      bit = met.place % 319;
                      from = omega (arith, most, to, from);
                      to = omega (arith, most, to, from, long_is size f);
                      one = ap (λ m. bit_of (key_at keys m) (met.place % 319)) (sym there) ∙ eqb-true (numbered_bit keys met.place) 1 one;
                    }
              ]
        ]

    meets : Spreads f (index_bits size) (key_at keys port) → Meets (bits_of ports keys) (group_of size f port)
    meets some =
        let most : group_from size + group_long size f ≤ 319 = long_most size f in
        let low : group_from size ≤ some.bit = some.from in
        let high : some.bit < group_from size + group_long size f = omega (arith, some.to, long_is size f) in
        let there : (319 * port + some.bit) / 319 ≡ port = omega (arith, most, high) in
        let place : (319 * port + some.bit) % 319 ≡ some.bit = omega (arith, most, high) in
        let is : numbered_bit keys (319 * port + some.bit) ≡ 1 = ap (λ p. bit_of (key_at keys p) ((319 * port + some.bit) % 319)) there ∙ ap (bit_of (key_at keys port)) place ∙ some.one in
        record {
          place = 319 * port + some.bit;
          member = group_in size f port (319 * port + some.bit) (omega (arith, low)) (omega (arith, high));
          one = bit_of_bits ports keys (319 * port + some.bit) (omega (arith, most, high, within)) ∙ eq-eqb (numbered_bit keys (319 * port + some.bit)) 1 is;
        }

-- a group is added where a port is keyed
pub group_added :
    (ports : ℕ) (objects : List Object) (size : TableSize) (family : Family) (port : ℕ) (groups : List (List Bool)) (group : List Bool) → port < ports → is_keyed_for objects family port ≡ true → group ≡ group_of size family port
    → AddsGroup ports objects size family port groups (groups ++ group ∷ [])
group_added ports objects size family port groups group within keyed is = record {
  exact = λ keys.
      let x : List Bool = bits_of ports keys in
      let parts : (All (Meets x) (groups ++ group ∷ [])) ↔ (All (Meets x) groups × Meets x group) = with_one (Meets x) groups group in
      let here : Meets x (group_of size family port) ↔ Spreads family (index_bits size) (key_at keys port) = meets_is_spreads size family ports port keys within in (
        λ all. ((parts.0 all).0, λ key. here.0 (subst (Meets x) is (parts.0 all).1)),
        λ both. parts.1 (both.0, subst (Meets x) (sym is) (here.1 (both.1 keyed))),
      );
}

-- and none where it is not
pub group_left :
    (ports : ℕ) (objects : List Object) (size : TableSize) (family : Family) (port : ℕ) (groups : List (List Bool)) → is_keyed_for objects family port ≡ false
    → AddsGroup ports objects size family port groups groups
group_left ports objects size family port groups unkeyed = record {
  exact = λ keys. (λ all. (all, λ keyed. absurd (both_ways (is_keyed_for objects family port) unkeyed keyed)), λ both. both.0);
}

-- the groups of the first n ports
pub record AreGroupsBelow (ports : ℕ) (objects : List Object) (size : TableSize) (n : ℕ) (groups : List (List Bool)) : Type 0 where
  pub exact : (keys : Keys) → (All (Meets (bits_of ports keys)) groups)
      ↔ ((port : ℕ) (family : Family) → port < n → is_keyed_for objects family port ≡ true → Spreads family (index_bits size) (key_at keys port))

pub groups_none : (ports : ℕ) (objects : List Object) (size : TableSize) → AreGroupsBelow ports objects size 0 []
groups_none ports objects size = record { exact = λ keys. (λ all port family below keyed. absurd (omega arith), λ each. All-nil (Meets (bits_of ports keys))) }

of_both : (size : TableSize) (objects : List Object) (keys : Keys) (n : ℕ) → (is_keyed_for objects Four n ≡ true → Spreads Four (index_bits size) (key_at keys n)) → (is_keyed_for objects Six n ≡ true → Spreads Six (index_bits size) (key_at keys n))
    → (family : Family) → is_keyed_for objects family n ≡ true → Spreads family (index_bits size) (key_at keys n)
of_both size objects keys n four six Four keyed = four keyed
of_both size objects keys n four six Six keyed = six keyed

-- those of one port more
pub groups_more : (ports : ℕ) (objects : List Object) (size : TableSize) (n : ℕ) (old mid new : List (List Bool)) → AreGroupsBelow ports objects size n old → AddsGroup ports objects size Four n old mid → AddsGroup ports objects size Six n mid new
    → AreGroupsBelow ports objects size (n + 1) new
groups_more ports objects size n old mid new below four six = record {
  exact = λ keys. (
    λ all port family small key.
        let last = (six.exact keys).0 all in
        let first = (four.exact keys).0 last.0 in
        elim (cases_eq port n) [
          | inl same ↦ subst (λ (m : ℕ). Spreads family (index_bits size) (key_at keys m)) (sym same) (of_both size objects keys n first.1 last.1 family (ap (is_keyed_for objects family) (sym same) ∙ key))
          | inr other ↦ (below.exact keys).0 first.0 port family (omega arith) key
        ],
    λ each. (six.exact keys).1 ((four.exact keys).1 ((below.exact keys).1 (λ port family small key. each port family (omega arith) key), λ key. each n Four (omega arith) key), λ key. each n Six (omega arith) key),
  );
}

pub groups_all : (ports : ℕ) (objects : List Object) (size : TableSize) (n : ℕ) (groups : List (List Bool)) → n ≡ ports → All (λ object. AreAtPorts ports object.places) objects → AreGroupsBelow ports objects size n groups → AreGroupsOf ports objects size groups
groups_all ports objects size n groups all within below = record {
  exact = λ keys. (
    λ met. record { each = λ port family keyed. (below.exact keys).0 met port family (omega (arith, all, keyed_within objects port ports within (keyed_for_keyed objects family port keyed))) keyed },
    λ spreading. (below.exact keys).1 (λ port family small keyed. spreading.each port family keyed),
  );
}
