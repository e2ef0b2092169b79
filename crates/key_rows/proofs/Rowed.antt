-- A row, bit by bit, and the windows of two places.
use Rattle.std.proofs.Common.{◌≡◌, ◌↔◌, ℕ, zero, suc, ◌+◌, ◌*◌, ◌/◌, ◌%◌, ◌<◌, ◌≤◌, ◌==◌, subst, Bool, true, false, not, refl, ap, sym, ◌∙◌, List, arith, add-one, length, replicate, get_or, set, inl, inr, if◌then◌else◌}
use Rattle.std.proofs.lemmas.Bool.{eq-eqb, ne_eqb, cases_eq}
use Rattle.std.proofs.lemmas.List.{length-set, length-replicate}
use Rattle.nf_base.specs.declared.keys.Keys.{Keys}
use Rattle.toeplitz_hash.specs.Toeplitz.{sum_below}
use Rattle.toeplitz_hash.specs.Packets.{key_at}
use Rattle.toeplitz_hash.proofs.Sums.{sum_below-same, sum_below-zero}
use Rattle.toeplitz_hash.proofs.Bytes.{bit_of-lt}
use Rattle.gf2_solve.specs.Sums.{plus, bit, sum_of}
use Rattle.gf2_solve.proofs.SumLemmas.{plus_zero, sum_of-set, sum_of-zeros}
use Rattle.key_rows.specs.declared.place.Place.{Place}
use Rattle.key_rows.specs.declared.windows.Windows.{Windows}
use Rattle.nf_base.specs.declared.packet.Family.{Family}
use Rattle.nf_base.specs.declared.packet.Family.TheVariants.{Four, Six}
use Rattle.key_rows.specs.Places.{Agree, AgreeAt}
use Rattle.key_rows.specs.Classes.{class_of, width_at, end_at}
use Rattle.key_rows.specs.Rows.{window_bit, class_sum, Rows, AreWindowsOf, window_at, sum_at, AreEvenAt, AreEven, AreOwn, numbered_bit, bits_of, is_odd, IsRowOf}
use Rattle.key_rows.proofs.Sums.{at_same, at_other}
use Rattle.key_rows.proofs.Joined.{class_keeps, class_ties, class_below}
use Rattle.key_rows.proofs.Theorem.{rows_say_all_inputs}
use Rattle.key_rows.proofs.Added.{bit_of_bits}

odd_plus : (n b : ℕ) → b < 2 → is_odd (n + b) ≡ plus (is_odd n) (b == 1)
odd_plus n zero small =
    let same : n + 0 ≡ n = omega arith in
    ap is_odd same ∙ sym (plus_zero (is_odd n))
odd_plus n (suc zero) small =
    elim (cases_eq (n % 2) 1) [
      | inl one ↦ ne_eqb ((n + 1) % 2) 1 (omega (arith, one)) ∙ sym (ap (λ t. plus t true) (eq-eqb (n % 2) 1 one))
      | inr other ↦ eq-eqb ((n + 1) % 2) 1 (omega (arith, other)) ∙ sym (ap (λ t. plus t true) (ne_eqb (n % 2) 1 other))
    ]
odd_plus n (suc (suc b)) small = absurd (omega arith)

-- the sum over the first n fields
abbrev pub sum_first : Keys → Windows → ℕ → ℕ → ℕ → ℕ
sum_first keys windows k u n = sum_below n (λ m. if get_or windows.classes m 0 == k then window_at keys windows m u else 0)

-- a row as far as the first n fields
pub record IsRowBelow (windows : Windows) (k u n : ℕ) (bits : List Bool) : Type 0 where
  pub long : length bits ≡ 1276
  pub sums : (ports : ℕ) (keys : Keys) → windows.first < ports → windows.second < ports → sum_of bits (bits_of ports keys) ≡ is_odd (sum_first keys windows k u n)

pub row_none : (windows : Windows) (k u : ℕ) (bits : List Bool) → bits ≡ replicate 1276 false → IsRowBelow windows k u 0 bits
unfolding sum_below
row_none windows k u bits is = record {
  long = ap length is ∙ length-replicate {A = Bool} 1276 false;
  sums = λ ports keys first second. ap (λ (row : List Bool). sum_of row (bits_of ports keys)) is ∙ sum_of-zeros 1276 (bits_of ports keys);
}

pub row_without : (windows : Windows) (k u n : ℕ) (bits : List Bool) → (get_or windows.classes n 0 ≡ k → ⊥) → IsRowBelow windows k u n bits → IsRowBelow windows k u (n + 1) bits
unfolding sum_below
row_without windows k u n bits other below = record {
  long = below.long;
  sums = λ ports keys first second.
      let none : (if get_or windows.classes n 0 == k then window_at keys windows n u else 0) ≡ 0 = at_other (get_or windows.classes n 0) k (window_at keys windows n u) 0 other in
      let next : sum_first keys windows k u (suc n) ≡ sum_first keys windows k u n = omega (arith, none) in
      below.sums ports keys first second ∙ ap is_odd (sym next ∙ ap (sum_first keys windows k u) (sym (add-one n)));
}

flipped_bit : (b : Bool) → not b ≡ plus b true
flipped_bit true = refl
flipped_bit false = refl

pub row_with : (windows : Windows) (k u n place : ℕ) (bits : List Bool) (b : Bool) → get_or windows.classes n 0 ≡ k → windows.first < 4 → windows.second < 4
    → ((keys : Keys) → numbered_bit keys place ≡ window_at keys windows n u)
    → ((ports : ℕ) → windows.first < ports → windows.second < ports → place < 319 * ports)
    → b ≡ bit bits place → IsRowBelow windows k u n bits → IsRowBelow windows k u (n + 1) (set bits place (not b))
unfolding sum_below
row_with windows k u n place bits b same first second value within is below = record {
  long = length-set bits place (not b) ∙ below.long;
  sums = λ ports keys at at_too.
      let here : (if get_or windows.classes n 0 == k then window_at keys windows n u else 0) ≡ window_at keys windows n u = at_same (get_or windows.classes n 0) k (window_at keys windows n u) 0 same in
      let next : sum_first keys windows k u (suc n) ≡ sum_first keys windows k u n + numbered_bit keys place = omega (arith, here, value keys) in
      let inside : place < length bits = omega (arith, within 4 first second, below.long) in
      let small : numbered_bit keys place < 2 = bit_of-lt (key_at keys (place / 319)) (place % 319) in
      ap (λ c. sum_of (set bits place c) (bits_of ports keys)) (flipped_bit b ∙ ap (λ c. plus c true) is)
      ∙ sum_of-set bits (bits_of ports keys) place true inside
      ∙ ap (plus (sum_of bits (bits_of ports keys))) (bit_of_bits ports keys place (within ports at at_too))
      ∙ ap (λ s. plus s (numbered_bit keys place == 1)) (below.sums ports keys at at_too)
      ∙ sym (odd_plus (sum_first keys windows k u n) (numbered_bit keys place) small)
      ∙ ap is_odd (sym next ∙ ap (sum_first keys windows k u) (sym (add-one n)));
}

pub row_all : (windows : Windows) (k u n : ℕ) (bits : List Bool) → n ≡ 8 → IsRowBelow windows k u n bits → IsRowOf windows k u bits
row_all windows k u n bits all below = record { sums = λ ports keys first second. below.sums ports keys first second ∙ ap (λ m. is_odd (sum_first keys windows k u m)) all }

-- A number that is not its own class is no field's class, so its sums are 0.
pub none_of_class : (keys : Keys) (windows : Windows) (k : ℕ) → AreOwn (λ n. get_or windows.classes n 0) → (get_or windows.classes k 0 ≡ k → ⊥) → AreEvenAt keys windows k
none_of_class keys windows k own other u small within =
    ap (λ m. m % 2)
    (sum_below-zero 8 (λ n. if get_or windows.classes n 0 == k then window_at keys windows n u else 0)
    (λ n below. at_other (get_or windows.classes n 0) k (window_at keys windows n u) 0
    (λ is. other (ap (λ m. get_or windows.classes m 0) (sym is) ∙ own.own n below ∙ is))))

module _ (first second : Place) (windows : Windows) (long : length first.known ≡ length second.known) (are : AreWindowsOf first second windows) where
  -- the classes of two places' windows
  pub classes_own : AreOwn (λ n. get_or windows.classes n 0)
  classes_own = record {
    own = λ n below.
        let here : get_or windows.classes n 0 ≡ class_of first.known second.known n = are.classes n below in
        let low : class_of first.known second.known n < 8 = class_below first.known second.known n below in
        ap (λ m. get_or windows.classes m 0) here
        ∙ are.classes (class_of first.known second.known n) low
        ∙ class_keeps first.known second.known (class_of first.known second.known) (class_ties first.known second.known long) n
        ∙ sym here;
  }

  same_sum : (keys : Keys) (k u : ℕ) → sum_at keys windows k u ≡ class_sum windows.first_family windows.second_family (class_of first.known second.known) (key_at keys first.port) (key_at keys second.port) k u
  same_sum keys k u =
      let f = windows.first_family in
      let g = windows.second_family in
      ap (λ p. class_sum f g (λ n. get_or windows.classes n 0) (key_at keys p) (key_at keys windows.second) k u) are.first_port
      ∙ ap (λ p. class_sum f g (λ n. get_or windows.classes n 0) (key_at keys first.port) (key_at keys p) k u) are.second_port
      ∙ sum_below-same 8 (λ n. if get_or windows.classes n 0 == k then window_bit f g (key_at keys first.port) (key_at keys second.port) n u else 0)
      (λ n. if class_of first.known second.known n == k then window_bit f g (key_at keys first.port) (key_at keys second.port) n u else 0)
      (λ n below. ap (λ c. if c == k then window_bit f g (key_at keys first.port) (key_at keys second.port) n u else 0) (are.classes n below))

  -- Their rows say that the places agree.
  pub even_is_agree : (keys : Keys) → AreEven keys windows ↔ AgreeAt keys first second
  even_is_agree keys =
      let f = windows.first_family in
      let g = windows.second_family in
      let one = key_at keys first.port in
      let two = key_at keys second.port in
      let theorem = rows_say_all_inputs f g first.known second.known one two long in (
        λ even.
            let agree : Agree f g first.known second.known one two = theorem.1 (record {
              even = λ k below u small within.
                  ap (λ m. m % 2) (sym (same_sum keys k u)) ∙ even k below u small (λ n inside same. within n inside (sym (are.classes n inside) ∙ same));
            }) in
            subst (λ (h : Family). Agree first.family h first.known second.known one two) are.second_family
            (subst (λ (h : Family). Agree h g first.known second.known one two) are.first_family agree),
        λ agree k below u small within.
            let there : Agree f g first.known second.known one two =
            subst (λ (h : Family). Agree h g first.known second.known one two) (sym are.first_family)
            (subst (λ (h : Family). Agree first.family h first.known second.known one two) (sym are.second_family) agree) in
            let rows : Rows f g first.known second.known one two = theorem.0 there in
            ap (λ m. m % 2) (same_sum keys k u) ∙ rows.even k below u small (λ n inside same. within n inside (are.classes n inside ∙ same)),
      )

-- each field ends at bit 288 at most, and is no longer than what ends there
abbrev Ends : Family → Family → ℕ → Type 0
Ends f g n = (end_at f g n ≤ 288) × (width_at f g n ≤ end_at f g n)

ends_at : (f g : Family) (n : ℕ) → n < 8 → Ends f g n
ends_at Four g zero below = (omega arith, omega arith)
ends_at Six g zero below = (omega arith, omega arith)
ends_at Four g (suc zero) below = (omega arith, omega arith)
ends_at Six g (suc zero) below = (omega arith, omega arith)
ends_at Four g (suc (suc zero)) below = (omega arith, omega arith)
ends_at Six g (suc (suc zero)) below = (omega arith, omega arith)
ends_at Four g (suc (suc (suc zero))) below = (omega arith, omega arith)
ends_at Six g (suc (suc (suc zero))) below = (omega arith, omega arith)
ends_at f Four (suc (suc (suc (suc zero)))) below = (omega arith, omega arith)
ends_at f Six (suc (suc (suc (suc zero)))) below = (omega arith, omega arith)
ends_at f Four (suc (suc (suc (suc (suc zero))))) below = (omega arith, omega arith)
ends_at f Six (suc (suc (suc (suc (suc zero))))) below = (omega arith, omega arith)
ends_at f Four (suc (suc (suc (suc (suc (suc zero)))))) below = (omega arith, omega arith)
ends_at f Six (suc (suc (suc (suc (suc (suc zero)))))) below = (omega arith, omega arith)
ends_at f Four (suc (suc (suc (suc (suc (suc (suc zero))))))) below = (omega arith, omega arith)
ends_at f Six (suc (suc (suc (suc (suc (suc (suc zero))))))) below = (omega arith, omega arith)
ends_at f g (suc (suc (suc (suc (suc (suc (suc (suc n)))))))) below = absurd (omega arith)

pub ends_within : (f g : Family) (n : ℕ) → n < 8 → end_at f g n ≤ 288
ends_within f g n below = (ends_at f g n below).0

pub ends_wide : (f g : Family) (n : ℕ) → n < 8 → width_at f g n ≤ end_at f g n
ends_wide f g n below = (ends_at f g n below).1
