-- Keys hash all tied inputs alike exactly where the rows add up to 0 modulo 2.
use Rattle.std.proofs.Common.{◌≡◌, ℕ, zero, suc, ◌+◌, ◌-◌, ◌*◌, ◌%◌, ◌^◌, ◌<◌, ◌≤◌, ◌==◌, ◌⊎◌, ap, sym, ◌∙◌, List, length, arith, inl, inr, if◌then◌else◌}
use Rattle.std.specs.Int.{bit_at}
use Rattle.std.proofs.lemmas.Bool.{cases_eq, cases_lt}
use Rattle.std.proofs.lemmas.Nat.{pow_pos, pow_below}
use Rattle.std.proofs.lemmas.Nat.Bits.{bit_at-lt, bit_at_above}
use Rattle.toeplitz_hash.specs.Toeplitz.{sum_below}
use Rattle.toeplitz_hash.proofs.Sums.{sum_below-same}
use Rattle.nf_base.specs.declared.hash_fields.Hashable.{Hashable}
use Rattle.nf_base.specs.Hashed.{number}
use Rattle.key_rows.specs.Classes.{class_of}
use Rattle.key_rows.specs.Laws.{KeepTies}
use Rattle.key_rows.proofs.Sums.{at_same, at_other, even_times, even_by_class}
use Rattle.key_rows.proofs.Joined.{class_keeps, class_ties, class_below, number_below}
use Rattle.key_rows.proofs.Inputs.{map_same, map_through}
use Rattle.nf_base.specs.declared.packet.Family.{Family}
use Rattle.nf_base.specs.declared.packet.Fields.{Fields}
use Rattle.key_rows.specs.Places.{IsInputOf}
use Rattle.key_rows.specs.Places.{AreTied, Agree}
use Rattle.key_rows.specs.Classes.{width_at}
use Rattle.key_rows.specs.Rows.{window_bit, class_sum, IsEven, Rows}
use Rattle.key_rows.specs.Laws.{RowsSayAllInputs}
use Rattle.key_rows.proofs.Windowed.{from_bits, to_bits, hashed, hashed_bit, value_at, value_fits, total, hash_total}
use Rattle.key_rows.proofs.Inputs.{values_tied, tied_values, input_with, input_after, value_with, is_input_with, is_input_after, width_some, one_picks, none_picks}

-- two bits whose sum is even
equal_bits : (a b : ℕ) → a < 2 → b < 2 → (a + b) % 2 ≡ 0 → a ≡ b
equal_bits a b first second even = omega arith

-- Either all fields of a class have bit t, counted from the end, or one has not.
abbrev Reaches : (ℕ → ℕ) → (ℕ → ℕ) → ℕ → ℕ → ℕ → Type 0
Reaches wide class k t m = (n : ℕ) → n < m → class n ≡ k → t < wide n

abbrev Ends : (ℕ → ℕ) → (ℕ → ℕ) → ℕ → ℕ → ℕ → Type 0
Ends wide class k t m = (n : ℕ) × (n < m) × (class n ≡ k) × (wide n ≤ t)

reach : (wide class : ℕ → ℕ) (k t m : ℕ) → Reaches wide class k t m ⊎ Ends wide class k t m
reach wide class k t zero = inl (λ n below same. absurd (omega arith))
reach wide class k t (suc m) =
    elim (reach wide class k t m) [
      | inr found ↦ inr (found.0, (omega (arith, found.1)), found.2, found.3)
      | inl all ↦
          elim (cases_eq (class m) k) [
            | inr other ↦
                inl (λ n below same.
                elim (cases_eq n m) [
                  | inl last ↦ absurd (other (ap class (sym last) ∙ same))
                  | inr before ↦ all n (omega arith) same
                ])
            | inl same_class ↦
                elim (cases_lt t (wide m)) [
                  | inr short ↦ inr (m, (omega arith), same_class, short)
                  | inl long ↦
                      inl (λ n below same.
                      elim (cases_eq n m) [
                        | inl last ↦ let equal : wide n ≡ wide m = ap wide last in omega (arith, equal, long)
                        | inr before ↦ all n (omega arith) same
                      ])
                ]
          ]
    ]

zero_times : (x y : ℕ) → x ≡ 0 → (x * y) % 2 ≡ 0
zero_times x y none = rw none (omega arith)

rows_suffice : (f g : Family) (first second : List Hashable) (key other : List ℕ) → Rows f g first second key other → Agree f g first second key other
rows_suffice f g first second key other rows = record {
  hashes = λ p q fits fits_too tied.
      let class : ℕ → ℕ = class_of first second in
      let same_value : (n : ℕ) → value_at p q (class n) ≡ value_at p q n = class_keeps first second (value_at p q) (values_tied first second p q tied) in
      from_bits key other p q
      (λ j within.
      let evens : (k t : ℕ) → k < 8 → t < 128 → (bit_at (value_at p q k) t * class_sum f g (class_of first second) key other k (t + (31 - j))) % 2 ≡ 0 =
      λ k t below small.
      elim (reach (width_at f g) (class_of first second) k t 8) [
        | inl all ↦
            even_times (bit_at (value_at p q k) t) (class_sum f g (class_of first second) key other k (t + (31 - j))) (bit_at-lt (value_at p q k) t)
            (rows.even k below (t + (31 - j)) (omega arith) (λ n inside same. omega (arith, all n inside same)))
        | inr found ↦
            let n : ℕ = found.0 in
            let same : value_at p q k ≡ value_at p q n = ap (value_at p q) (sym found.2) ∙ same_value n in
            let none : bit_at (value_at p q n) t ≡ 0 = bit_at_above (value_at p q n) (width_at f g n) t (value_fits f g p q fits fits_too n found.1) found.3 in
            zero_times (bit_at (value_at p q k) t) (class_sum f g (class_of first second) key other k (t + (31 - j))) (ap (λ v. bit_at v t) same ∙ none)
      ] in
      let even : total f g key other p q j % 2 ≡ 0 =
      even_by_class 8 128 (class_of first second) (λ n t. bit_at (value_at p q n) t) (λ n t. window_bit f g key other n (t + (31 - j)))
      (class_below first second)
      (λ n t. ap (λ v. bit_at v t) (same_value n))
      evens in
      equal_bits (hashed key p j) (hashed other q j) (hashed_bit key p j) (hashed_bit other q j) (hash_total f g key other p q j fits fits_too within ∙ even));
}

-- the eight values with a 1 at bit t of each field of class k
abbrev lit_of : ℕ → ℕ → ℕ → ℕ
lit_of k t c = (if c == k then 2 ^ t else 0)

abbrev lit : List Hashable → List Hashable → ℕ → ℕ → ℕ → ℕ
lit first second k t n = lit_of k t (class_of first second n)

lit_tied : (first second : List Hashable) (k t : ℕ) → length first ≡ length second → KeepTies first second (lit first second k t)
lit_tied first second k t long =
    map_through (λ x. class_of first second (number x)) (λ y. class_of first second (4 + number y)) (lit_of k t) first second
    (class_ties first second long)

lit_inputs_tied : (f g : Family) (first second : List Hashable) (k t : ℕ) → length first ≡ length second → AreTied first second (input_with f (lit first second k t)) (input_after g (lit first second k t))
lit_inputs_tied f g first second k t long =
    let v : ℕ → ℕ = lit first second k t in
    tied_values first second (input_with f (lit first second k t)) (input_after g (lit first second k t))
    (map_same (λ x. value_at (input_with f v) (input_after g v) (number x)) (λ x. v (number x)) (λ x. let low : number x < 4 = number_below x in value_with f g v (number x) (omega arith)) first
    ∙ lit_tied first second k t long
    ∙ sym (map_same (λ y. value_at (input_with f v) (input_after g v) (4 + number y)) (λ y. v (4 + number y)) (λ y. let low : number y < 4 = number_below y in value_with f g v (4 + number y) (omega arith)) second))

-- what a field adds to the hash bits of these inputs
picked : (f g : Family) (first second : List Hashable) (key other : List ℕ) (k t s n v : ℕ) → t < 128 → v ≡ lit first second k t n
    → sum_below 128 (λ i. bit_at v i * window_bit f g key other n (i + s)) ≡ (if class_of first second n == k then window_bit f g key other n (t + s) else 0)
picked f g first second key other k t s n v small is =
    elim (cases_eq (class_of first second n) k) [
      | inl e ↦
          let one : v ≡ 2 ^ t = is ∙ at_same (class_of first second n) k (2 ^ t) 0 e in
          ap (λ x. sum_below 128 (λ i. bit_at x i * window_bit f g key other n (i + s))) one
          ∙ one_picks t (λ i. window_bit f g key other n (i + s)) small
          ∙ sym (at_same (class_of first second n) k (window_bit f g key other n (t + s)) 0 e)
      | inr e ↦
          let none : v ≡ 0 = is ∙ at_other (class_of first second n) k (2 ^ t) 0 e in
          ap (λ x. sum_below 128 (λ i. bit_at x i * window_bit f g key other n (i + s))) none
          ∙ none_picks (λ i. window_bit f g key other n (i + s))
          ∙ sym (at_other (class_of first second n) k (window_bit f g key other n (t + s)) 0 e)
    ]

module _ (f g : Family) (first second : List Hashable) (k t : ℕ) (reaches : Reaches (width_at f g) (class_of first second) k t 8) where
  lit_fits : (n : ℕ) → n < 8 → lit first second k t n < 2 ^ width_at f g n
  lit_fits n below =
      elim (cases_eq (class_of first second n) k) [
        | inl e ↦
            let is : lit first second k t n ≡ 2 ^ t = at_same (class_of first second n) k (2 ^ t) 0 e in
            let less : t < width_at f g n = reaches n below e in
            rw is (pow_below t (width_at f g n) less)
        | inr e ↦
            let is : lit first second k t n ≡ 0 = at_other (class_of first second n) k (2 ^ t) 0 e in
            rw is (pow_pos (width_at f g n))
      ]

  row_at : (key other : List ℕ) (j : ℕ) → length first ≡ length second → Agree f g first second key other → t < 128 → j < 32 → class_sum f g (class_of first second) key other k (t + (31 - j)) % 2 ≡ 0
  row_at key other j long agree small within =
      let p : Fields = input_with f (lit first second k t) in
      let q : Fields = input_after g (lit first second k t) in
      let tied : AreTied first second p q = lit_inputs_tied f g first second k t long in
      let fits : IsInputOf f p = is_input_with f g (lit first second k t) lit_fits in
      let fits_too : IsInputOf g q = is_input_after f g (lit first second k t) lit_fits in
      let equal : hashed key p j ≡ hashed other q j = to_bits key other p q (agree.hashes p q fits fits_too tied) j within in
      let sum : total f g key other p q j ≡ class_sum f g (class_of first second) key other k (t + (31 - j)) =
      sum_below-same 8 (λ n. sum_below 128 (λ i. bit_at (value_at p q n) i * window_bit f g key other n (i + (31 - j))))
      (λ n. if class_of first second n == k then window_bit f g key other n (t + (31 - j)) else 0)
      (λ n below. picked f g first second key other k t (31 - j) n (value_at p q n) small (value_with f g (lit first second k t) n below)) in
      let both : (hashed key p j + hashed other q j) % 2 ≡ total f g key other p q j % 2 = hash_total f g key other p q j fits fits_too within in
      omega (arith, equal, sum, both)

rows_needed : (f g : Family) (first second : List Hashable) (key other : List ℕ) → length first ≡ length second → Agree f g first second key other → Rows f g first second key other
rows_needed f g first second key other long agree = record { even = each }
  where
    each : (k : ℕ) → k < 8 → (u : ℕ) → u < 159 → IsEven f g (class_of first second) key other k u
    each k below u small within =
        elim (cases_lt u 32) [
          | inl low ↦
              ap (λ m. class_sum f g (class_of first second) key other k m % 2) (omega arith)
              ∙ row_at f g first second k 0 (λ n inside same. width_some f g n inside) key other (31 - u) long agree (omega arith) (omega arith)
          | inr high ↦
              ap (λ m. class_sum f g (class_of first second) key other k m % 2) (omega arith)
              ∙ row_at f g first second k (u - 31) (λ n inside same. omega (arith, within n inside same)) key other 0 long agree (omega arith) (omega arith)
        ]

pub rows_say_all_inputs : RowsSayAllInputs
rows_say_all_inputs f g first second key other long = (rows_needed f g first second key other long, rows_suffice f g first second key other)
