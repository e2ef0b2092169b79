-- From certificates to the given keys, or none.
use Rattle.std.proofs.Common.{◌≡◌, ◌⊎◌, ℕ, suc, ◌+◌, ◌*◌, ◌/◌, ◌%◌, ◌<◌, ◌≤◌, ◌==◌, nat_lt, refl, sym, ap, ◌∙◌, subst, inl, inr, true, false, Bool, List, [], ◌∷◌, get_or, length, map, arith}
use Rattle.std.proofs.lemmas.Bool.{eq-eqb, eqb-true, cases_eq, cases_lt, lt-ltb, ltb-true}
use Rattle.std.proofs.lemmas.List.FromFn.{get_or-map-range_with_len}
use Rattle.nf_base.specs.declared.card.Card.{Card}
use Rattle.nf_base.specs.declared.keys.Keys.{Keys}
use Rattle.nf_base.specs.declared.packet.Fields.{Fields}
use Rattle.nf_base.specs.declared.hash_fields.Hashable.{Hashable}
use Rattle.nf_base.specs.Hashed.{value}
use Rattle.toeplitz_hash.specs.declared.key.TheConstants.{DEFAULT_KEY}
use Rattle.toeplitz_hash.specs.DefaultKey.{default_key}
use Rattle.toeplitz_hash.proofs.Defaults.{default_keys_agree}
use Rattle.toeplitz_hash.specs.Bits.{bit_of}
use Rattle.toeplitz_hash.specs.Packets.{key_at}
use Rattle.toeplitz_hash.proofs.Bytes.{bit_of-lt}
use Rattle.gf2_solve.specs.Sums.{bit}
use Rattle.key_rows.specs.declared.place.Place.{Place}
use Rattle.key_rows.specs.declared.place.Object.{Object}
use Rattle.key_rows.specs.Places.{AreAdmissibleForAll}
use Rattle.key_rows.specs.Given as given
use Rattle.key_rows.specs.Given.{AgreeBefore, key_bit, default_bit}
use Rattle.key_rows.specs.Rows.{bits_of}
use Rattle.key_rows.specs.Systems.{default_bits}
use Rattle.key_rows.proofs.Theorem.{rows_say_all_inputs}
use Rattle.key_rows.proofs.Added.{length_bits}
use Rattle.certificate_laws.specs.Terms.{rows_at}
use Rattle.certificate_laws.specs.Laws.{IsNearest, AgreeWhere}
use Rattle.certificate_laws.specs.Certificates.{counted, AreGivenBy, spans_of, LockedIsLocked, GivenAreGiven}
use Rattle.certificate_laws.proofs.Refuting.{refuted_is_nearest, nothing_fixed}
use Rattle.certificate_laws.proofs.Listing.{bit_at_port, may_is_admissible}

pub locked_is_locked : LockedIsLocked
locked_is_locked ports objects card rows is = record {
  none = λ keys may.
      is.refuted.none (bits_of ports keys) (may_is_admissible ports objects card rows keys is.listed may) (nothing_fixed (319 * ports) (bits_of ports keys) (length_bits ports keys));
}

pub same_bits : (a b : ℕ) → a < 2 → b < 2 → (a == 1) ≡ (b == 1) → a ≡ b
same_bits a b first second same =
    elim (cases_eq b 1) [
      | inl one ↦ eqb-true a 1 (same ∙ eq-eqb b 1 one) ∙ sym one
      | inr other ↦
          elim (cases_eq a 1) [
            | inl one ↦ absurd (other (eqb-true b 1 (sym same ∙ eq-eqb a 1 one)))
            | inr neither ↦ omega arith
          ]
    ]

pub default_at : (ports port i : ℕ) (card : Card) → port < ports → i < 319 → bit (default_bits ports) (319 * port + i) ≡ (default_bit card i == 1)
default_at ports port i card within low =
    let inside : 319 * port + i < 319 * ports = omega arith in
    let q : (319 * port + i) % 319 ≡ i = omega arith in
    get_or-map-range_with_len (λ k. bit_of DEFAULT_KEY (k % 319) == 1) 0 (319 * ports) (319 * port + i) (319 * port + i) false inside (omega arith)
    ∙ ap (λ n. bit_of DEFAULT_KEY n == 1) q
    ∙ ap (λ n. n == 1) (sym (default_keys_agree card.key i (omega (arith, low))))

-- whether a bit counts
counted_at : (positions : ℕ → ℕ) (ports m : ℕ) → m < 319 * ports → bit (counted positions ports) m ≡ nat_lt (m % 319) (positions (m / 319))
counted_at positions ports m inside = get_or-map-range_with_len (λ k. nat_lt (k % 319) (positions (k / 319))) 0 (319 * ports) m m false inside (omega arith)

-- keys that agree on all earlier bits that count, as vectors
earlier_bits : (positions : ℕ → ℕ) (ports : ℕ) (keys other : Keys) (port i : ℕ) → port < ports → i < 319 → AgreeBefore positions port i keys other
    → AgreeWhere (bit (counted positions ports)) (319 * port + i) (bits_of ports keys) (bits_of ports other)
earlier_bits positions ports keys other port i within low before = record {
  bits = λ j below is_counted.
      let whole : 319 * (j / 319) + j % 319 ≡ j = omega arith in
      let there : j / 319 < ports = omega arith in
      let small : j % 319 < 319 = omega arith in
      let inside : j % 319 < positions (j / 319) = ltb-true (j % 319) (positions (j / 319)) (sym (counted_at positions ports j (omega arith)) ∙ is_counted) in
      let same : key_bit keys (j / 319) (j % 319) ≡ key_bit other (j / 319) (j % 319) =
      elim (cases_lt (j / 319) port) [
        | inl earlier ↦ before.earlier_ports (j / 319) (j % 319) earlier inside
        | inr late ↦
            let last : j / 319 ≡ port = omega arith in
            let less : j % 319 < i = omega arith in
            ap (λ n. key_bit keys n (j % 319)) last ∙ before.earlier_bits (j % 319) less ∙ sym (ap (λ n. key_bit other n (j % 319)) last)
      ] in
      ap (bit (bits_of ports keys)) (sym whole) ∙ bit_at_port ports keys (j / 319) (j % 319) there small ∙ ap (λ b. b == 1) same
      ∙ sym (bit_at_port ports other (j / 319) (j % 319) there small) ∙ ap (bit (bits_of ports other)) whole;
}

map_long : (f : Hashable → ℕ) (xs : List Hashable) → length (map f xs) ≡ length xs
map_long f [] = refl
map_long f (x ∷ xs) = ap suc (map_long f xs)

-- inputs can be tied only where there are as many fields
long_alike : (first second : List Hashable) (p q : Fields) → map (value p) first ≡ map (value q) second → length first ≡ length second
long_alike first second p q tied = sym (map_long (value p) first) ∙ ap length tied ∙ map_long (value q) second

module _ (positions : ℕ → ℕ) (ports : ℕ) (objects : List Object) (card : Card) (rows : List (List ℕ)) (keys : Keys) (most : (port : ℕ) → positions port ≤ 319) (is : AreGivenBy positions ports objects card rows keys) where
  admissible_ : AreAdmissibleForAll keys objects
  admissible_ i o within j p inside k q inside_too =
      let first : Place = get_or (get_or objects i o).places j p in
      let second : Place = get_or (get_or objects i o).places k q in
      elim (cases_eq (length first.known) (length second.known)) [
        | inl long ↦
            (rows_say_all_inputs first.family second.family first.known second.known (key_at keys first.port) (key_at keys second.port) long).1 (is.right.admissible.each i o within j p inside k q inside_too long)
        | inr other ↦ record { hashes = λ x y fits fits_too tied. absurd (other (long_alike first.known second.known x y tied)) }
      ]

  near : IsNearest (bit (counted positions ports)) (rows_at rows) (spans_of objects card.table ports) (319 * ports) (default_bits ports) (bits_of ports keys)
  near = refuted_is_nearest (bit (counted positions ports)) (rows_at rows) (spans_of objects card.table ports) (319 * ports) (default_bits ports) (bits_of ports keys) is.nearest

  nearest_ : (port i : ℕ) → port < ports → i < positions port → (key_bit keys port i ≡ default_bit card i) ⊎ given.IsOutOfReach positions ports objects card keys port i
  nearest_ port i within small =
      let low : i < 319 = omega (arith, small, most port) in
      let inside : 319 * port + i < 319 * ports = omega arith in
      let p : (319 * port + i) / 319 ≡ port = omega arith in
      let q : (319 * port + i) % 319 ≡ i = omega arith in
      let is_counted : bit (counted positions ports) (319 * port + i) ≡ true = counted_at positions ports (319 * port + i) inside ∙ ap (λ n. nat_lt n (positions ((319 * port + i) / 319))) q ∙ ap (λ n. nat_lt i (positions n)) p ∙ lt-ltb i (positions port) small in
      elim (near.nearest (319 * port + i) inside is_counted) [
        | inl wanted ↦
            inl (same_bits (key_bit keys port i) (default_bit card i) (bit_of-lt (key_at keys port) i) (bit_of-lt (default_key card.key) i)
            (sym (bit_at_port ports keys port i within low) ∙ wanted ∙ default_at ports port i card within low))
        | inr out ↦
            inr (record {
              none = λ other may before same.
                  out (bits_of ports other) (length_bits ports other) (may_is_admissible ports objects card rows other is.listed may) (earlier_bits positions ports keys other port i within low before)
                  (bit_at_port ports other port i within low ∙ ap (λ b. b == 1) same ∙ sym (default_at ports port i card within low));
            })
      ]

pub given_are_given : GivenAreGiven
given_are_given positions ports objects card rows keys most is = record {
  may = record {
    table = is.right.table;
    count = is.right.count;
    whole = is.right.whole;
    admissible = admissible_ positions ports objects card rows keys most is;
    spreading = is.right.spreading;
  };
  nearest = nearest_ positions ports objects card rows keys most is;
  past = is.right.past;
  unkeyed = is.right.unkeyed;
}
