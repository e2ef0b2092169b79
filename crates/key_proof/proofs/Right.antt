-- Keys of which none is wrong.
use Rattle.std.proofs.Common.{◌≡◌, ◌≢◌, ℕ, zero, suc, ◌+◌, ◌-◌, ◌*◌, ◌/◌, ◌%◌, ◌<◌, ◌≤◌, ◌==◌, ◌&&◌, ◌||◌, nat_lt, nat_le, not, refl, sym, ap, ◌∙◌, subst, inl, inr, true, false, Bool, List, [], ◌∷◌, All, length, get_or, Option, Some, None, if◌then◌else◌, bytes_eq, arith}
use Rattle.std.specs.List.{list_any, list_all, range_with_len}
use Rattle.std.proofs.lemmas.Bool.{false≢true, cases_Bool, cases_eq, cases_lt, eq-eqb, eqb-true, and_parts, lt-ltb, ltb-true}
use Rattle.std.proofs.lemmas.Nat.Bits.{bit_at-zero}
use Rattle.std.proofs.lemmas.Option.{none-some}
use Rattle.std.proofs.lemmas.List.{get_or_past}
use Rattle.std.proofs.lemmas.Slice.Eq.{bytes_eq-Decides}
use Rattle.std.specs.Int.{bit_at}
use Rattle.nf_base.specs.declared.card.Card.{Card}
use Rattle.nf_base.specs.declared.card.TableSize.{TableSize}
use Rattle.nf_base.specs.declared.card.TableSize.TheVariants.{Entries128, Entries512}
use Rattle.nf_base.specs.declared.keys.Keys.{Keys}
use Rattle.nf_base.specs.declared.packet.Family.{Family}
use Rattle.nf_base.specs.declared.packet.Family.TheVariants.{Four, Six}
use Rattle.nf_base.specs.Cards.{index_bits, key_bytes}
use Rattle.toeplitz_hash.specs.DefaultKey.{default_key}
use Rattle.toeplitz_hash.specs.Bits.{bit_of}
use Rattle.toeplitz_hash.specs.Packets.{key_at}
use Rattle.toeplitz_hash.proofs.Bytes.{bit_of-lt}
use Rattle.key_rows.specs.declared.place.Place.{Place}
use Rattle.key_rows.specs.declared.place.Object.{Object}
use Rattle.key_rows.specs.Places.{input_bits}
use Rattle.key_rows.specs.Keyed.{is_keyed, is_keyed_for, AreAtPorts}
use Rattle.key_rows.specs.Spread.{Spreads}
use Rattle.key_rows.specs.Given.{AreSpreading, key_bit}
use Rattle.key_rows.specs.Classes.{width_at}
use Rattle.key_rows.specs.Rows.{IsWithin, Rows, class_sum, is_odd}
use Rattle.key_rows.specs.Systems.{group_from, group_long}
use Rattle.key_rows.proofs.Bytes.{bit_in_byte}
use Rattle.key_rows.proofs.Grouped.{keyed_within, keyed_for_keyed}
use Rattle.certificate_laws.specs.Certificates.{MeetAllRows}
use Rattle.key_proof.specs.Rows.{class_at}
use Rattle.key_proof.specs.Judging.{has_one, is_flat, is_long, is_unfit, has_field, home, has_bit, are_within, is_odd_at, bit_fails, class_fails, pair_fails, object_fails, rows_fail, is_wrong, wrong_from, wrong_port}
use Rattle.key_proof.proofs.Ranges.{none_at, all_good}
use Rattle.key_proof.proofs.Judged.{class_here, pair_tied}

pub or_none : (a b : Bool) → (a || b) ≡ false → (a ≡ false) × (b ≡ false)
or_none true b is = absurd (false≢true (sym is))
or_none false b is = (refl, is)

-- no port's key is wrong
pub none_wrong : (objects : List Object) (card : Card) (keys : Keys) (positions : List ℕ) (port j : ℕ) → wrong_from objects card keys port positions ≡ None → j < length positions → is_wrong objects card (get_or positions j 0) keys (port + j) ≡ false
none_wrong objects card keys [] port j none below = absurd (omega (arith, below))
none_wrong objects card keys (count ∷ positions) port j none below = elim (cases_Bool (is_wrong objects card count keys port)) [
  | inl wrong ↦ absurd (none-some port (sym (sym (ap (λ b. if b then Some port else wrong_from objects card keys (port + 1) positions) wrong) ∙ none)))
  | inr right ↦
      let rest : wrong_from objects card keys (port + 1) positions ≡ None = sym (ap (λ b. if b then Some port else wrong_from objects card keys (port + 1) positions) right) ∙ none in
      at j below right (λ i low. none_wrong objects card keys positions (port + 1) i rest low)
]
  where
    at : (i : ℕ) → i < length (count ∷ positions) → is_wrong objects card count keys port ≡ false → ((k : ℕ) → k < length positions → is_wrong objects card (get_or positions k 0) keys (port + 1 + k) ≡ false)
        → is_wrong objects card (get_or (count ∷ positions) i 0) keys (port + i) ≡ false
    at zero low right rest = ap (is_wrong objects card count keys) (let same : port + 0 ≡ port = omega arith in same) ∙ right
    at (suc i) low right rest =
        ap (is_wrong objects card (get_or positions i 0) keys) (let same : port + suc i ≡ port + 1 + i = omega arith in same) ∙ rest i (omega (arith, low))

-- what no item of a list has
none_item : {X : Type 0} (p : X → Bool) (xs : List X) (k : ℕ) (d : X) → list_any p xs ≡ false → k < length xs → p (get_or xs k d) ≡ false
none_item p [] k d none below = absurd (omega (arith, below))
none_item p (x ∷ xs) zero d none below = (or_none (p x) (list_any p xs) none).0
none_item p (x ∷ xs) (suc k) d none below = none_item p xs k d (or_none (p x) (list_any p xs) none).1 (omega (arith, below))

-- some number of a range
some_at : (p : ℕ → Bool) (from count : ℕ) → list_any p (range_with_len from count) ≡ true → (m : ℕ) × (from ≤ m) × (m < from + count) × (p m ≡ true)
some_at p from zero some = absurd (false≢true some)
some_at p from (suc count) some = elim (cases_Bool (p from)) [
  | inl is ↦ (from, omega arith, omega arith, is)
  | inr not ↦
      let more = some_at p (from + 1) count (sym (ap (λ b. b || list_any p (range_with_len (from + 1) count)) not) ∙ some) in
      (more.0, let least = more.1 in omega (arith, least), let most = more.2 in omega (arith, most), more.3)
]

bit_zero : (key : List ℕ) (i : ℕ) → (bit_of key i == 1) ≡ false → bit_of key i ≡ 0
bit_zero key i is = elim (cases_eq (bit_of key i) 1) [
  | inl one ↦ absurd (false≢true (sym is ∙ eq-eqb (bit_of key i) 1 one))
  | inr other ↦ let small = bit_of-lt key i in omega (arith, small, other)
]

bit_past : (key : List ℕ) (i : ℕ) → 8 * length key ≤ i → bit_of key i ≡ 0
bit_past key i past =
    bit_in_byte key i ∙ ap (λ b. bit_at b (7 - i % 8)) (get_or_past key (i / 8) 0 (omega (arith, past))) ∙ bit_at-zero (7 - i % 8)

-- a bit past the positions of a keyed port
pub past_zero : (objects : List Object) (card : Card) (count port i : ℕ) (key : List ℕ) → is_unfit objects card count port key ≡ false → is_keyed objects port ≡ true → length key ≡ key_bytes card.key → count ≤ i → bit_of key i ≡ 0
past_zero objects card count port i key fit keyed long past =
    let none : has_one key count (8 * key_bytes card.key - count) ≡ false = sym (ap (λ b. if b then is_long card count key else not (bytes_eq key (default_key card.key))) keyed) ∙ fit in
    elim (cases_lt i (8 * key_bytes card.key)) [
      | inl inside ↦ bit_zero key i (none_at (λ j. bit_of key j == 1) count (8 * key_bytes card.key - count) i none past (omega (arith, past, inside)))
      | inr behind ↦ bit_past key i (omega (arith, behind, long))
    ]

not_false : (b : Bool) → not b ≡ false → b ≡ true
not_false true is = refl
not_false false is = absurd (false≢true (sym is))

-- the key of a port that is not keyed
pub default_there : (objects : List Object) (card : Card) (count port : ℕ) (key : List ℕ) → is_unfit objects card count port key ≡ false → is_keyed objects port ≡ false → key ≡ default_key card.key
default_there objects card count port key fit unkeyed =
    let same : bytes_eq key (default_key card.key) ≡ true = not_false (bytes_eq key (default_key card.key)) (sym (ap (λ b. if b then is_long card count key else not (bytes_eq key (default_key card.key))) unkeyed) ∙ fit) in
    (bytes_eq-Decides key (default_key card.key)).0 same

span_ends : (size : TableSize) (f : Family) → group_from size + group_long size f ≡ input_bits f + 31
span_ends Entries128 Four = refl
span_ends Entries128 Six = refl
span_ends Entries512 Four = refl
span_ends Entries512 Six = refl

pub spreads_there : (objects : List Object) (table : TableSize) (family : Family) (port : ℕ) (key : List ℕ) → is_flat objects table family port key ≡ false → is_keyed_for objects family port ≡ true → Spreads family (index_bits table) key
spreads_there objects table family port key flat keyed =
    let some : has_one key (group_from table) (group_long table family) ≡ true =
    not_false (has_one key (group_from table) (group_long table family)) (sym (ap (λ b. b && not (has_one key (group_from table) (group_long table family))) keyed) ∙ flat) in
    let at = some_at (λ i. bit_of key i == 1) (group_from table) (group_long table family) some in
    record {
      bit = at.0;
      from = at.1;
      to = let most = at.2 in omega (arith, most, span_ends table family);
      one = eqb-true (bit_of key at.0) 1 at.3;
    }

-- a row that doesn't fail at its port
odd_none : (n : ℕ) → is_odd n ≡ false → n % 2 ≡ 0
odd_none n none = elim (cases_eq (n % 2) 1) [
  | inl one ↦ absurd (false≢true (sym none ∙ eq-eqb (n % 2) 1 one))
  | inr other ↦ omega (arith, other)
]

has_them : (first second : Place) (k u : ℕ) → IsWithin first.family second.family (class_at first second) k u → true ≡ are_within first second k u
has_them first second k u within = all_good (has_bit first second k u) 0 8 (λ m least most. bit_there m (omega (arith, most)))
  where
    bit_there : (m : ℕ) → m < 8 → has_bit first second k u m ≡ true
    bit_there m below = elim (cases_Bool (class_at first second m == k)) [
      | inl same ↦
          ap (λ b. not b || nat_lt u (width_at first.family second.family m + 31)) same
          ∙ lt-ltb u (width_at first.family second.family m + 31) (within m below (eqb-true (class_at first second m) k same))
      | inr other ↦ ap (λ b. not b || nat_lt u (width_at first.family second.family m + 31)) other
    ]

bit_is : (keys : Keys) (first second : Place) (k u : ℕ) → are_within first second k u ≡ true → is_odd_at keys first second k u ≡ bit_fails keys first second k u
unfolding bit_fails
bit_is keys first second k u is = sym (ap (λ b. b && is_odd_at keys first second k u) is)

home_there : (first second : Place) (k ports : ℕ) → first.port < ports → second.port < ports → home first second k < ports
home_there first second k ports one two = go (has_field first second k 0 4) (has_field first second k 4 4) (nat_le first.port second.port)
  where
    go : (a b c : Bool) → (if a then (if b then (if c then first.port else second.port) else first.port) else second.port) < ports
    go true true true = one
    go true true false = two
    go true false c = one
    go false b c = two

pub pair_even : (keys : Keys) (first second : Place) → length first.known ≡ length second.known → pair_fails keys (home first second 0) first second ≡ pair_fails keys (home first second 0) first second
    → ((k : ℕ) → k < 8 → pair_fails keys (home first second k) first second ≡ false) → Rows first.family second.family first.known second.known (key_at keys first.port) (key_at keys second.port)
pair_even keys first second tied same none = record {
  even = λ k below u small within.
      let port : ℕ = home first second k in
      let classes : list_any (class_fails keys port first second) (range_with_len 0 8) ≡ false = pair_tied keys port first second (list_any (class_fails keys port first second) (range_with_len 0 8)) tied refl ∙ none k below in
      let class : class_fails keys port first second k ≡ false = none_at (class_fails keys port first second) 0 8 k classes (omega arith) (omega (arith, below)) in
      let bits : list_any (bit_fails keys first second k) (range_with_len 0 159) ≡ false = class_here keys port first second k (list_any (bit_fails keys first second k) (range_with_len 0 159)) refl refl ∙ class in
      let bit : bit_fails keys first second k u ≡ false = none_at (bit_fails keys first second k) 0 159 u bits (omega arith) (omega (arith, small)) in
      odd_none (class_sum first.family second.family (class_at first second) (key_at keys first.port) (key_at keys second.port) k u)
      (bit_is keys first second k u (sym (has_them first second k u within)) ∙ bit);
}

pub all_even : (objects : List Object) (keys : Keys) (ports : ℕ) → All (λ object. AreAtPorts ports object.places) objects → ((port : ℕ) → port < ports → rows_fail objects keys port ≡ false) → MeetAllRows objects keys
all_even objects keys ports at none = record {
  each = λ i o within j p inside l q inside_too tied.
      let object : Object = get_or objects i o in
      let first : Place = get_or (get_or objects i o).places j p in
      let second : Place = get_or (get_or objects i o).places l q in
      pair_even keys first second tied refl (λ k below.
      let port : ℕ = home first second k in
      let there : home first second k < ports = home_there first second k ports (at i o within j p inside) (at i o within l q inside_too) in
      let of_object : object_fails keys port object ≡ false = none_item (object_fails keys port) objects i o (none port there) within in
      let of_first : list_any (pair_fails keys port first) object.places ≡ false = none_item (λ x. list_any (pair_fails keys port x) object.places) object.places j p of_object inside in
      none_item (pair_fails keys port first) object.places l q of_first inside_too);
}
