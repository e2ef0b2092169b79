-- Given keys are not judged to be wrong.
use Rattle.std.proofs.Common.{◌≡◌, ℕ, suc, ◌+◌, ◌-◌, ◌*◌, ◌%◌, ◌<◌, ◌==◌, ◌&&◌, ◌||◌, nat_lt, not, refl, sym, ap, ◌∙◌, inl, inr, true, false, Bool, List, [], ◌∷◌, length, get_or, Some, None, if◌then◌else◌, bytes_eq, arith}
use Rattle.std.specs.List.{list_any, range_with_len}
use Rattle.std.proofs.lemmas.Bool.{false≢true, cases_Bool, eq-eqb, ne_eqb, eqb-true, ltb-true}
use Rattle.std.proofs.lemmas.List.FromFn.{length-map-range_with_len, get_or-map-range_with_len}
use Rattle.std.proofs.lemmas.Slice.Eq.{bytes_eq-Decides}
use Rattle.nf_base.specs.declared.card.Card.{Card}
use Rattle.nf_base.specs.declared.card.TableSize.{TableSize}
use Rattle.nf_base.specs.declared.card.TableSize.TheVariants.{Entries128, Entries512}
use Rattle.nf_base.specs.declared.keys.Keys.{Keys}
use Rattle.nf_base.specs.declared.packet.Family.{Family}
use Rattle.nf_base.specs.declared.packet.Family.TheVariants.{Four, Six}
use Rattle.nf_base.specs.Cards.{key_bytes}
use Rattle.nf_base.specs.Doors.{six_ports}
use Rattle.nf_base.specs.Text.{Function}
use Rattle.toeplitz_hash.specs.DefaultKey.{default_key}
use Rattle.toeplitz_hash.specs.Bits.{bit_of}
use Rattle.toeplitz_hash.specs.Packets.{key_at}
use Rattle.key_rows.specs.declared.place.Place.{Place}
use Rattle.key_rows.specs.declared.place.Object.{Object}
use Rattle.key_rows.specs.Places.{AgreeAt, input_bits}
use Rattle.key_rows.specs.Keyed.{is_keyed, is_keyed_for}
use Rattle.key_rows.specs.Positions.{positions_at}
use Rattle.key_rows.specs.Given.{AreGiven}
use Rattle.key_rows.specs.Classes.{width_at}
use Rattle.key_rows.specs.Rows.{IsWithin, Rows, class_sum, is_odd}
use Rattle.key_rows.specs.Systems.{group_from, group_long}
use Rattle.key_rows.proofs.Theorem.{rows_say_all_inputs}
use Rattle.shard_rules.specs.Served.{own_plan}
use Rattle.key_proof.specs.Faults.{subject_of}
use Rattle.key_proof.specs.Rows.{class_at}
use Rattle.key_proof.specs.Judging.{has_one, is_flat, is_long, is_unfit, home, has_bit, are_within, is_odd_at, bit_fails, class_fails, pair_fails, object_fails, rows_fail, is_wrong, wrong_from, wrong_port}
use Rattle.key_proof.proofs.Ranges.{all_at, any_none, any_here, none_of}

span_ends : (size : TableSize) (f : Family) → group_from size + group_long size f ≡ input_bits f + 31
span_ends Entries128 Four = refl
span_ends Entries128 Six = refl
span_ends Entries512 Four = refl
span_ends Entries512 Six = refl

or_then : (a b : Bool) → a ≡ true → (not a || b) ≡ true → b ≡ true
or_then true b is or = or
or_then false b is or = absurd (false≢true is)

and_false : (a b : Bool) → b ≡ false → (a && b) ≡ false
and_false true b is = is
and_false false b is = refl

-- all windows have a bit
they_have : (first second : Place) (k u : ℕ) → are_within first second k u ≡ true → IsWithin first.family second.family (class_at first second) k u
they_have first second k u all n below same =
    ltb-true u (width_at first.family second.family n + 31)
    (or_then (class_at first second n == k) (nat_lt u (width_at first.family second.family n + 31)) (eq-eqb (class_at first second n) k same)
    (all_at (has_bit first second k u) 0 8 n all (omega arith) (omega (arith, below))))

even_none : (n : ℕ) → n % 2 ≡ 0 → is_odd n ≡ false
even_none n even = ne_eqb (n % 2) 1 (omega (arith, even))

module _ (keys : Keys) (port : ℕ) (first second : Place) (agree : AgreeAt keys first second) where
  bit_right : (k u : ℕ) → length first.known ≡ length second.known → k < 8 → u < 159 → bit_fails keys first second k u ≡ false
  unfolding bit_fails
  bit_right k u long below small = elim (cases_Bool (are_within first second k u)) [
    | inl within ↦
        let rows : Rows first.family second.family first.known second.known (key_at keys first.port) (key_at keys second.port) =
        (rows_say_all_inputs first.family second.family first.known second.known (key_at keys first.port) (key_at keys second.port) long).0 agree in
        and_false (are_within first second k u) (is_odd_at keys first second k u)
        (even_none (class_sum first.family second.family (class_at first second) (key_at keys first.port) (key_at keys second.port) k u) (rows.even k below u small (they_have first second k u within)))
    | inr none ↦ ap (λ b. b && is_odd_at keys first second k u) none
  ]

  class_right : (k : ℕ) → length first.known ≡ length second.known → k < 8 → class_fails keys port first second k ≡ false
  unfolding class_fails
  class_right k long below =
      and_false (home first second k == port) (list_any (bit_fails keys first second k) (range_with_len 0 159))
      (sym (any_none (bit_fails keys first second k) 0 159 (λ u from small. bit_right k u long below (omega (arith, small)))))

  pair_right : pair_fails keys port first second ≡ false
  unfolding pair_fails
  pair_right = elim (cases_Bool (length first.known == length second.known)) [
    | inl same ↦
        and_false (length first.known == length second.known) (list_any (class_fails keys port first second) (range_with_len 0 8))
        (sym (any_none (class_fails keys port first second) 0 8 (λ k from below. class_right k (eqb-true (length first.known) (length second.known) same) (omega (arith, below)))))
    | inr other ↦ ap (λ b. b && list_any (class_fails keys port first second) (range_with_len 0 8)) other
  ]

module _ (positions : ℕ → ℕ) (ports : ℕ) (objects : List Object) (card : Card) (keys : Keys) (given : AreGiven positions ports objects card keys) where
  rows_right : (port : ℕ) → rows_fail objects keys port ≡ false
  rows_right port =
      sym (none_of (object_fails keys port) objects (λ i o within.
      sym (none_of (λ first. list_any (pair_fails keys port first) (get_or objects i o).places) (get_or objects i o).places (λ j p inside.
      sym (none_of (pair_fails keys port (get_or (get_or objects i o).places j p)) (get_or objects i o).places (λ k q inside_too.
      pair_right keys port (get_or (get_or objects i o).places j p) (get_or (get_or objects i o).places k q) (let may = given.may in may.admissible i o within j p inside k q inside_too)))))))

  flat_right : (family : Family) (port : ℕ) → is_flat objects card.table family port (key_at keys port) ≡ false
  flat_right family port = elim (cases_Bool (is_keyed_for objects family port)) [
    | inl keyed ↦
        let may = given.may in
        let spreading = may.spreading in
        let one = spreading.each port family keyed in
        let least = one.from in
        let most = one.to in
        and_false (is_keyed_for objects family port) (not (has_one (key_at keys port) (group_from card.table) (group_long card.table family)))
        (ap not (sym (any_here (λ i. bit_of (key_at keys port) i == 1) (group_from card.table) (group_long card.table family) one.bit least (omega (arith, most, span_ends card.table family)) (eq-eqb (bit_of (key_at keys port) one.bit) 1 one.one))))
    | inr none ↦ ap (λ b. b && not (has_one (key_at keys port) (group_from card.table) (group_long card.table family))) none
  ]

  unfit_right : (port : ℕ) → port < ports → is_unfit objects card (positions port) port (key_at keys port) ≡ false
  unfit_right port there = elim (cases_Bool (is_keyed objects port)) [
    | inl keyed ↦
        ap (λ b. if b then is_long card (positions port) (key_at keys port) else not (bytes_eq (key_at keys port) (default_key card.key))) keyed
        ∙ sym (any_none (λ i. bit_of (key_at keys port) i == 1) (positions port) (8 * key_bytes card.key - positions port) (λ m from below. ap (λ n. n == 1) (given.past port m there keyed from)))
    | inr none ↦
        ap (λ b. if b then is_long card (positions port) (key_at keys port) else not (bytes_eq (key_at keys port) (default_key card.key))) none
        ∙ ap not ((bytes_eq-Decides (key_at keys port) (default_key card.key)).1 (given.unkeyed port there none))
  ]

  port_right : (port : ℕ) → port < ports → is_wrong objects card (positions port) keys port ≡ false
  port_right port there =
      ap (λ b. b || (is_flat objects card.table Four port (key_at keys port) || (is_flat objects card.table Six port (key_at keys port) || rows_fail objects keys port))) (unfit_right port there)
      ∙ ap (λ b. b || (is_flat objects card.table Six port (key_at keys port) || rows_fail objects keys port)) (flat_right Four port)
      ∙ ap (λ b. b || rows_fail objects keys port) (flat_right Six port)
      ∙ rows_right port

none_wrong : (objects : List Object) (card : Card) (keys : Keys) (port : ℕ) (counts : List ℕ) → ((j : ℕ) → j < length counts → is_wrong objects card (get_or counts j 0) keys (port + j) ≡ false) → wrong_from objects card keys port counts ≡ None
none_wrong objects card keys port [] each = refl
none_wrong objects card keys port (count ∷ counts) each =
    ap (λ b. if b then Some port else wrong_from objects card keys (port + 1) counts)
    (ap (is_wrong objects card count keys) (let same : port ≡ port + 0 = omega arith in same) ∙ each 0 (omega arith))
    ∙ none_wrong objects card keys (port + 1) counts
    (λ j below. ap (is_wrong objects card (get_or counts j 0) keys) (let same : port + 1 + j ≡ port + suc j = omega arith in same) ∙ each (suc j) (omega (arith, below)))

-- keys given over the places of a function
pub given_fit : (f : Function) (card : Card) (keys : Keys) → AreGiven (positions_at (six_ports f) (own_plan f).objects) (length f.handlers) (own_plan f).objects card keys
    → wrong_port (own_plan f).objects card (subject_of f).positions keys ≡ None
given_fit f card keys given =
    let objects : List Object = (own_plan f).objects in
    let positions : ℕ → ℕ = positions_at (six_ports f) (own_plan f).objects in
    none_wrong objects card keys 0 (subject_of f).positions (λ j below.
    let inside : j < length f.handlers = let all = length-map-range_with_len positions 0 (length f.handlers) in omega (arith, below, all) in
    let count : get_or (subject_of f).positions j 0 ≡ positions_at (six_ports f) (own_plan f).objects j = get_or-map-range_with_len positions 0 (length f.handlers) j j 0 inside (omega arith) in
    ap (λ c. is_wrong (own_plan f).objects card c keys (0 + j)) count
    ∙ ap (is_wrong (own_plan f).objects card (positions_at (six_ports f) (own_plan f).objects j) keys) (let same : 0 + j ≡ j = omega arith in same)
    ∙ port_right positions (length f.handlers) objects card keys given j inside)
