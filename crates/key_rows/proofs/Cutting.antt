-- Keys that are nearest in 319 bits each, cut to the positions of their ports.
use Rattle.std.proofs.Common.{◌≡◌, ◌⊎◌, ℕ, suc, ◌+◌, ◌-◌, ◌*◌, ◌/◌, ◌%◌, ◌<◌, ◌≤◌, ◌==◌, subst, nat_lt, Bool, true, false, refl, ap, sym, ◌∙◌, List, [], arith, length, map, get_or, inl, inr, if◌then◌else◌}
use Rattle.std.specs.Int.{bit_at}
use Rattle.std.specs.List.{range_with_len, list_any}
use Rattle.std.proofs.lemmas.Bool.{cases_lt, le-ltb, lt-ltb, eq-eqb}
use Rattle.std.proofs.lemmas.List.Folds.{list_any_at}
use Rattle.std.proofs.lemmas.List.{get_or_past}
use Rattle.std.proofs.lemmas.List.FromFn.{length-map-range_with_len, get_or-map-range_with_len}
use Rattle.std.proofs.lemmas.List.Elements.{All-map}
use Rattle.std.proofs.lemmas.Nat.Bits.{bit_at-zero}
use Rattle.nf_base.specs.declared.card.Card.{Card}
use Rattle.nf_base.specs.declared.card.KeySize.{KeySize}
use Rattle.nf_base.specs.declared.card.TableSize.{TableSize}
use Rattle.nf_base.specs.Cards.{key_bytes}
use Rattle.nf_base.specs.declared.keys.Keys.{Keys}
use Rattle.nf_base.specs.declared.packet.Fields.{Fields}
use Rattle.toeplitz_hash.specs.Bits.{bit_of, number_of}
use Rattle.toeplitz_hash.specs.Toeplitz.{toeplitz_of}
use Rattle.toeplitz_hash.specs.Packets as met
use Rattle.toeplitz_hash.specs.Packets.{input_bytes, key_at}
use Rattle.nf_base.specs.declared.packet.Family.{Family}
use Rattle.nf_base.specs.declared.packet.Family.TheVariants.{Four, Six}
use Rattle.toeplitz_hash.proofs.Bytes.{bit_of-lt}
use Rattle.toeplitz_hash.proofs.Numbers.{number_of-lt, bit_at-number_of}
use Rattle.toeplitz_hash.proofs.Linear.{only_positions_matter}
use Rattle.key_rows.specs.declared.place.Place.{Place}
use Rattle.key_rows.specs.declared.place.Object.{Object}
use Rattle.key_rows.specs.Places.{IsInputOf, input_bits, AreAdmissibleForAll}
use Rattle.key_rows.specs.Keyed.{is_keyed_for, is_for, version}
use Rattle.key_rows.proofs.Grouped.{both_true}
use Rattle.key_rows.specs.Given.{IsKey, AreSpreading, MayBeGiven, default_bit, key_bit, AgreeBefore, IsOutOfReach, AreGiven}
use Rattle.key_rows.specs.Positions.{AreWithin, AreCut, CutKeysAreGiven}
use Rattle.key_rows.proofs.Bytes.{bit_in_byte, least_bytes}

-- ---- a key of given bits, of which those past 319 are 0

abbrev bits_in : (ℕ → ℕ) → ℕ → ℕ
bits_in f i = number_of 8 (λ j. f (8 * i + j))

abbrev key_with : KeySize → (ℕ → ℕ) → List ℕ
key_with size f = map (bits_in f) (range_with_len 0 (key_bytes size))

module _ (size : KeySize) (f : ℕ → ℕ) (bits : (i : ℕ) → f i < 2) (none : (i : ℕ) → 320 ≤ i → f i ≡ 0) where
  long : length (key_with size f) ≡ key_bytes size
  long = length-map-range_with_len (bits_in f) 0 (key_bytes size)

  bit_with : (i : ℕ) → bit_of (key_with size f) i ≡ f i
  bit_with i =
      let least : 40 ≤ key_bytes size = least_bytes size in
      elim (cases_lt i (8 * key_bytes size)) [
        | inl within ↦
            let g : ℕ → ℕ = λ j. f (8 * (i / 8) + j) in
            let eight : 8 ≡ suc (i % 8) + (7 - i % 8) = omega arith in
            let whole : 8 * (i / 8) + i % 8 ≡ i = omega arith in
            bit_in_byte (key_with size f) i
            ∙ ap (λ b. bit_at b (7 - i % 8)) (get_or-map-range_with_len (bits_in f) 0 (key_bytes size) (i / 8) (i / 8) 0 (omega (arith, within)) (omega arith))
            ∙ ap (λ m. bit_at (number_of m g) (7 - i % 8)) eight
            ∙ bit_at-number_of (i % 8) (7 - i % 8) g (λ j. bits (8 * (i / 8) + j))
            ∙ ap f whole
        | inr past ↦
            bit_in_byte (key_with size f) i
            ∙ ap (λ b. bit_at b (7 - i % 8)) (get_or_past (key_with size f) (i / 8) 0 (omega (arith, past, long)))
            ∙ bit_at-zero (7 - i % 8)
            ∙ sym (none i (omega (arith, past, least)))
      ]

  is_key_with : IsKey size (key_with size f)
  is_key_with = record {
    long = long;
    bytes = λ k d below.
        let is : get_or (key_with size f) k d ≡ bits_in f k = get_or-map-range_with_len (bits_in f) 0 (key_bytes size) k k d (omega (arith, below, long)) (omega arith) in
        rw is (number_of-lt 8 (λ j. f (8 * k + j)) (λ j. bits (8 * k + j)));
  }

-- ---- keys that have the same bits as far as inputs meet them

positions_are : (f : Family) → input_bits f + 31 ≡ met.positions f
positions_are Four = refl
positions_are Six = refl

-- a place's port is keyed for its family
keyed_for_at : (objects : List Object) (i j : ℕ) (o : Object) (p : Place) → i < length objects → j < length (get_or objects i o).places
    → is_keyed_for objects (get_or (get_or objects i o).places j p).family (get_or (get_or objects i o).places j p).port ≡ true
keyed_for_at objects i j o p within inside =
    let place : Place = get_or (get_or objects i o).places j p in
    list_any_at (λ object. list_any (is_for place.family place.port) object.places) objects i o within
    (list_any_at (is_for place.family place.port) (get_or objects i o).places j p inside
    (both_true (version place.family == version place.family) (place.port == place.port) (eq-eqb (version place.family) (version place.family) refl) (eq-eqb place.port place.port refl)))

-- keys with the same bits, of a port that is keyed for a family those that its inputs meet
abbrev SameMet : List Object → Keys → Keys → Type 0
SameMet objects keys other =
    (family : Family) (port i : ℕ) → is_keyed_for objects family port ≡ true → i < met.positions family → key_bit keys port i ≡ key_bit other port i

module _ (objects : List Object) (keys other : Keys) (same : SameMet objects keys other) where
  hashes_same : (family : Family) (port : ℕ) (p : Fields) → is_keyed_for objects family port ≡ true → IsInputOf family p → toeplitz_of (key_at keys port) (input_bytes p) ≡ toeplitz_of (key_at other port) (input_bytes p)
  hashes_same family port p keyed fits =
      only_positions_matter (key_at keys port) (key_at other port) p (record { bits = λ i below. same family port i keyed (subst (λ (g : Family). i < met.positions g) fits.of below) })

  admissible_too : AreAdmissibleForAll keys objects → AreAdmissibleForAll other objects
  admissible_too admissible i o within j p inside k q inside_too =
      let first : Place = get_or (get_or objects i o).places j p in
      let second : Place = get_or (get_or objects i o).places k q in
      let agree = admissible i o within j p inside k q inside_too in
      record {
        hashes = λ u v fits fits_too tied.
            sym (hashes_same first.family first.port u (keyed_for_at objects i j o p within inside) fits)
            ∙ agree.hashes u v fits fits_too tied ∙ hashes_same second.family second.port v (keyed_for_at objects i k o q within inside_too) fits_too;
      }

  spreading_too : (size : TableSize) → AreSpreading size objects keys → AreSpreading size objects other
  spreading_too size spreading = record {
    each = λ port family keyed.
        let one = spreading.each port family keyed in
        record { bit = one.bit; from = one.from; to = one.to; one = sym (same family port one.bit keyed (omega (arith, one.to, positions_are family))) ∙ one.one };
  }

-- ---- one key's bits up to some place, and another's behind it

abbrev joined_bit : ℕ → List ℕ → List ℕ → ℕ → ℕ
joined_bit n front back i = (if nat_lt i n then bit_of front i else (if nat_lt i 320 then bit_of back i else 0))

joined_front : (n : ℕ) (front back : List ℕ) (i : ℕ) → i < n → joined_bit n front back i ≡ bit_of front i
joined_front n front back i lt = ap (λ (t : Bool). if t then bit_of front i else (if nat_lt i 320 then bit_of back i else 0)) (lt-ltb i n lt)

joined_back : (n : ℕ) (front back : List ℕ) (i : ℕ) → n ≤ i → i < 320 → joined_bit n front back i ≡ bit_of back i
joined_back n front back i le lt =
    ap (λ (t : Bool). if t then bit_of front i else (if nat_lt i 320 then bit_of back i else 0)) (le-ltb i n le)
    ∙ ap (λ (t : Bool). if t then bit_of back i else 0) (lt-ltb i 320 lt)

joined_none : (n : ℕ) (front back : List ℕ) (i : ℕ) → n ≤ 319 → 320 ≤ i → joined_bit n front back i ≡ 0
joined_none n front back i most past =
    ap (λ (t : Bool). if t then bit_of front i else (if nat_lt i 320 then bit_of back i else 0)) (le-ltb i n (omega (arith, most, past)))
    ∙ ap (λ (t : Bool). if t then bit_of back i else 0) (le-ltb i 320 past)

joined_small : (n : ℕ) (front back : List ℕ) (i : ℕ) → joined_bit n front back i < 2
joined_small n front back i = of_tests (nat_lt i n) (nat_lt i 320)
  where
    of_tests : (s t : Bool) → (if s then bit_of front i else (if t then bit_of back i else 0)) < 2
    of_tests true t = bit_of-lt front i
    of_tests false true = bit_of-lt back i
    of_tests false false = omega arith

module _ (positions : ℕ → ℕ) (ports : ℕ) (objects : List Object) (card : Card) (keys cut : Keys) (within : AreWithin positions objects) (wide : AreGiven (λ port. 319) ports objects card keys) (is : AreCut positions ports objects card keys cut) where
  -- past the last port there is no key
  none_past : (other : Keys) (port : ℕ) → length other.ports ≡ ports → ports ≤ port → key_at other port ≡ []
  none_past other port count past = get_or_past other.ports port [] (omega (arith, count, past))

  low_same : SameMet objects keys cut
  low_same family port i keyed low =
      elim (cases_lt port ports) [
        | inl inside ↦ sym (is.same port i inside (omega (arith, within.least port family keyed, low)))
        | inr past ↦ ap (λ (key : List ℕ). bit_of key i) (none_past keys port wide.may.count past ∙ sym (none_past cut port is.count past))
      ]

  may_cut : MayBeGiven ports objects card cut
  may_cut = record {
    table = is.table;
    count = is.count;
    whole = is.whole;
    admissible = admissible_too objects keys cut low_same wide.may.admissible;
    spreading = spreading_too objects keys cut low_same card.table wide.may.spreading;
  }

  module _ (other : Keys) (may : MayBeGiven ports objects card other) where
    abbrev patch : ℕ → ℕ → ℕ
    patch port = joined_bit (positions port) (key_at other port) (key_at keys port)

    abbrev patched : Keys
    patched = record { table = card.table; ports = map (λ port. key_with card.key (patch port)) (range_with_len 0 ports) }

    patched_at : (port : ℕ) → port < ports → key_at patched port ≡ key_with card.key (patch port)
    patched_at port inside = get_or-map-range_with_len (λ p. key_with card.key (patch p)) 0 ports port port [] inside (omega arith)

    patched_count : length patched.ports ≡ ports
    patched_count = length-map-range_with_len (λ p. key_with card.key (patch p)) 0 ports

    patched_bit : (port i : ℕ) → port < ports → key_bit patched port i ≡ patch port i
    patched_bit port i inside =
        ap (λ (key : List ℕ). bit_of key i) (patched_at port inside)
        ∙ bit_with card.key (patch port) (joined_small (positions port) (key_at other port) (key_at keys port))
        (λ j past. joined_none (positions port) (key_at other port) (key_at keys port) j (within.most port) past) i

    patched_front : (port i : ℕ) → port < ports → i < positions port → key_bit patched port i ≡ key_bit other port i
    patched_front port i inside low = patched_bit port i inside ∙ joined_front (positions port) (key_at other port) (key_at keys port) i low

    patched_back : (port i : ℕ) → port < ports → positions port ≤ i → i < 320 → key_bit patched port i ≡ key_bit keys port i
    patched_back port i inside high small = patched_bit port i inside ∙ joined_back (positions port) (key_at other port) (key_at keys port) i high small

    low_patched : SameMet objects other patched
    low_patched family port i keyed low =
        elim (cases_lt port ports) [
          | inl inside ↦ sym (patched_front port i inside (omega (arith, within.least port family keyed, low)))
          | inr past ↦ ap (λ (key : List ℕ). bit_of key i) (none_past other port may.count past ∙ sym (none_past patched port patched_count past))
        ]

    may_patched : MayBeGiven ports objects card patched
    may_patched = record {
      table = refl;
      count = patched_count;
      whole = All-map (IsKey card.key) (λ p. key_with card.key (patch p)) (range_with_len 0 ports) (λ k d below.
          let port : ℕ = get_or (range_with_len 0 ports) k d in
          is_key_with card.key (patch port) (joined_small (positions port) (key_at other port) (key_at keys port))
          (λ j past. joined_none (positions port) (key_at other port) (key_at keys port) j (within.most port) past));
      admissible = admissible_too objects other patched low_patched may.admissible;
      spreading = spreading_too objects other patched low_patched card.table may.spreading;
    }

    -- what agrees with the cut keys before a bit, patched, agrees with the whole ones
    before_patched : (port i : ℕ) → port < ports → i < positions port → AgreeBefore positions port i cut other → AgreeBefore (λ q. 319) port i keys patched
    before_patched port i inside low before = record {
      earlier_ports = λ q j earlier small.
          let there : q < ports = omega (arith, earlier, inside) in
          elim (cases_lt j (positions q)) [
            | inl front ↦ sym (is.same q j there front) ∙ before.earlier_ports q j earlier front ∙ sym (patched_front q j there front)
            | inr back ↦ sym (patched_back q j there back (omega (arith, small)))
          ];
      earlier_bits = λ j earlier.
          let front : j < positions port = omega (arith, earlier, low) in
          sym (is.same port j inside front) ∙ before.earlier_bits j earlier ∙ sym (patched_front port j inside front);
    }

  nearest_cut : (port i : ℕ) → port < ports → i < positions port → (key_bit cut port i ≡ default_bit card i) ⊎ IsOutOfReach positions ports objects card cut port i
  nearest_cut port i inside low =
      elim (wide.nearest port i inside (omega (arith, low, within.most port))) [
        | inl default ↦ inl (is.same port i inside low ∙ default)
        | inr out ↦
            inr (record {
              none = λ other may before default.
                  out.none (patched other may) (may_patched other may) (before_patched other may port i inside low before)
                  (patched_front other may port i inside low ∙ default);
            })
      ]

  given_cut : AreGiven positions ports objects card cut
  given_cut = record { may = may_cut; nearest = nearest_cut; past = is.past; unkeyed = is.unkeyed }

pub cut_keys_are_given : CutKeysAreGiven
cut_keys_are_given positions ports objects card keys cut within wide is = given_cut positions ports objects card keys cut within wide is
