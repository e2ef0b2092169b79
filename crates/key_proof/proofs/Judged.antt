-- Which rows fail.
use Rattle.std.proofs.Common.{◌≡◌, ◌≢◌, ℕ, zero, suc, ◌+◌, ◌<◌, ◌≤◌, ◌==◌, ◌%◌, ◌&&◌, ◌||◌, nat_lt, not, refl, sym, ap, ◌∙◌, true, false, Bool, List, length, if◌then◌else◌, arith, add-one}
use Rattle.std.specs.List.{list_any, range_with_len}
use Rattle.std.proofs.lemmas.Bool.{eq-eqb, ne_eqb, ltb-true, false≢true}
use Rattle.nf_base.specs.declared.keys.Keys.{Keys}
use Rattle.toeplitz_hash.specs.Toeplitz.{sum_below}
use Rattle.toeplitz_hash.specs.Packets.{key_at}
use Rattle.key_rows.specs.declared.place.Place.{Place}
use Rattle.key_rows.specs.Classes.{width_at}
use Rattle.key_rows.specs.Rows.{IsWithin, window_bit, class_sum, is_odd}
use Rattle.key_rows.proofs.Sums.{at_same, at_other}
use Rattle.key_proof.specs.Rows.{class_at}
use Rattle.key_proof.specs.Judging.{home, has_bit, are_within, is_odd_at, bit_fails, class_fails, pair_fails}
use Rattle.key_proof.proofs.Ranges.{all_at}

-- the sum over the first n fields, of which each adds 1 at most
abbrev pub sum_first : Place → Place → List ℕ → List ℕ → ℕ → ℕ → ℕ → ℕ
sum_first first second key other k u n =
    sum_below n (λ m. if class_at first second m == k then window_bit first.family second.family key other m u else 0)

pub record IsSumBelow (first second : Place) (key other : List ℕ) (k u n sum : ℕ) : Type 0 where
  pub value : sum ≡ sum_first first second key other k u n
  pub low : sum ≤ n

pub sum_none : (first second : Place) (key other : List ℕ) (k u : ℕ) → IsSumBelow first second key other k u 0 0
unfolding sum_below
sum_none first second key other k u = record { value = refl; low = omega arith }

pub sum_with : (first second : Place) (key other : List ℕ) (k u n sum bit : ℕ) → class_at first second n ≡ k → bit ≡ window_bit first.family second.family key other n u → bit < 2
    → IsSumBelow first second key other k u n sum → IsSumBelow first second key other k u (n + 1) (sum + bit)
unfolding sum_below
sum_with first second key other k u n sum bit same is small below =
    let here : (if class_at first second n == k then window_bit first.family second.family key other n u else 0) ≡ window_bit first.family second.family key other n u =
    at_same (class_at first second n) k (window_bit first.family second.family key other n u) 0 same in
    let next : sum_first first second key other k u (suc n) ≡ sum_first first second key other k u n + bit = omega (arith, here, is) in
    record {
      value = ap (λ s. s + bit) below.value ∙ sym next ∙ ap (sum_first first second key other k u) (sym (add-one n));
      low = omega (arith, below.low, small);
    }

pub sum_without : (first second : Place) (key other : List ℕ) (k u n sum : ℕ) → (class_at first second n ≡ k → ⊥) → IsSumBelow first second key other k u n sum → IsSumBelow first second key other k u (n + 1) sum
unfolding sum_below
sum_without first second key other k u n sum away below =
    let none : (if class_at first second n == k then window_bit first.family second.family key other n u else 0) ≡ 0 =
    at_other (class_at first second n) k (window_bit first.family second.family key other n u) 0 away in
    let next : sum_first first second key other k u (suc n) ≡ sum_first first second key other k u n = omega (arith, none) in
    record {
      value = below.value ∙ sym next ∙ ap (sum_first first second key other k u) (sym (add-one n));
      low = omega (arith, below.low);
    }

pub sum_all : (first second : Place) (key other : List ℕ) (k u n sum : ℕ) → n ≡ 8 → IsSumBelow first second key other k u n sum → sum ≡ class_sum first.family second.family (class_at first second) key other k u
sum_all first second key other k u n sum all below = below.value ∙ ap (sum_first first second key other k u) all

or_then : (a b : Bool) → a ≡ true → (not a || b) ≡ true → b ≡ true
or_then true b is or = or
or_then false b is or = absurd (false≢true is)

-- all windows of the class have the bit
pub bits_within : (first second : Place) (k u : ℕ) → are_within first second k u ≡ true → IsWithin first.family second.family (class_at first second) k u
bits_within first second k u all n below same =
    ltb-true u (width_at first.family second.family n + 31)
    (or_then (class_at first second n == k) (nat_lt u (width_at first.family second.family n + 31)) (eq-eqb (class_at first second n) k same)
    (all_at (has_bit first second k u) 0 8 n all (omega arith) (omega (arith, below))))

pub bit_outside : (keys : Keys) (first second : Place) (k u : ℕ) → are_within first second k u ≡ false → false ≡ bit_fails keys first second k u
unfolding bit_fails
bit_outside keys first second k u is = sym (ap (λ b. b && is_odd_at keys first second k u) is)

pub bit_inside : (keys : Keys) (first second : Place) (key other : List ℕ) (k u sum : ℕ) → are_within first second k u ≡ true → key ≡ key_at keys first.port → other ≡ key_at keys second.port
    → sum ≡ class_sum first.family second.family (class_at first second) key other k u → (sum % 2 == 1) ≡ bit_fails keys first second k u
unfolding bit_fails
bit_inside keys first second key other k u sum is one two value =
    ap is_odd value
    ∙ ap (λ (l : List ℕ). is_odd (class_sum first.family second.family (class_at first second) l other k u)) one
    ∙ ap (λ (l : List ℕ). is_odd (class_sum first.family second.family (class_at first second) (key_at keys first.port) l k u)) two
    ∙ sym (ap (λ b. b && is_odd_at keys first second k u) is)

pub class_elsewhere : (keys : Keys) (port : ℕ) (first second : Place) (k : ℕ) → home first second k ≢ port → false ≡ class_fails keys port first second k
unfolding class_fails
class_elsewhere keys port first second k other = sym (ap (λ b. b && list_any (bit_fails keys first second k) (range_with_len 0 159)) (ne_eqb (home first second k) port other))

pub class_here : (keys : Keys) (port : ℕ) (first second : Place) (k : ℕ) (b : Bool) → home first second k ≡ port → b ≡ list_any (bit_fails keys first second k) (range_with_len 0 159) → b ≡ class_fails keys port first second k
unfolding class_fails
class_here keys port first second k b same is = is ∙ sym (ap (λ b. b && list_any (bit_fails keys first second k) (range_with_len 0 159)) (eq-eqb (home first second k) port same))

pub pair_untied : (keys : Keys) (port : ℕ) (first second : Place) → length first.known ≢ length second.known → false ≡ pair_fails keys port first second
unfolding pair_fails
pair_untied keys port first second other = sym (ap (λ b. b && list_any (class_fails keys port first second) (range_with_len 0 8)) (ne_eqb (length first.known) (length second.known) other))

pub pair_tied : (keys : Keys) (port : ℕ) (first second : Place) (b : Bool) → length first.known ≡ length second.known → b ≡ list_any (class_fails keys port first second) (range_with_len 0 8) → b ≡ pair_fails keys port first second
unfolding pair_fails
pair_tied keys port first second b same is = is ∙ sym (ap (λ b. b && list_any (class_fails keys port first second) (range_with_len 0 8)) (eq-eqb (length first.known) (length second.known) same))
