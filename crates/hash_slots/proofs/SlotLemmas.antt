-- Slots by number, and how many have a pair.
use Rattle.std.proofs.Common.{◌≡◌, ◌≢◌, ◌∙◌, ap, sym, refl, arith, ℕ, zero, suc, ◌+◌, ◌<◌, ◌≤◌, Bool, true, false, not, List, [], ◌∷◌, length, get_or}
use Rattle.std.specs.Prelude.{Option, Some, None, slice_set, replicate, IsSome, is_some}
use Rattle.std.proofs.lemmas.Option.{none-some}
use Rattle.hash_slots.specs.declared.cells.Pair.{Pair}
use Rattle.hash_slots.specs.Places.{slot_at, pairs_of}

pub slot-set_same :
    (slots : List (Option Pair)) (i : ℕ) (v : Option Pair) → i < length slots
    → slot_at (slice_set slots i v) i ≡ v
slot-set_same [] i v lt = absurd (omega arith)
slot-set_same (s ∷ slots) zero v lt = refl
slot-set_same (s ∷ slots) (suc i) v lt = slot-set_same slots i v (omega (arith, lt))

pub slot-set_other :
    (slots : List (Option Pair)) (i j : ℕ) (v : Option Pair) → j ≢ i
    → slot_at (slice_set slots i v) j ≡ slot_at slots j
slot-set_other [] i j v ne = refl
slot-set_other (s ∷ slots) zero zero v ne = absurd (ne refl)
slot-set_other (s ∷ slots) zero (suc j) v ne = refl
slot-set_other (s ∷ slots) (suc i) zero v ne = refl
slot-set_other (s ∷ slots) (suc i) (suc j) v ne = slot-set_other slots i j v (λ e. ne (ap suc e))

pub slot_within :
    (slots : List (Option Pair)) (i : ℕ) (p : Pair) → slot_at slots i ≡ Some p → i < length slots
slot_within [] i p here = absurd (none-some p here)
slot_within (x ∷ slots) zero p here = omega arith
slot_within (x ∷ slots) (suc i) p here = omega (arith, slot_within slots i p here)

pub slot_past : (slots : List (Option Pair)) (i : ℕ) → length slots ≤ i → slot_at slots i ≡ None
slot_past [] i ge = refl
slot_past (x ∷ slots) zero ge = absurd (omega arith)
slot_past (x ∷ slots) (suc i) ge = slot_past slots i (omega (arith, ge))

-- what a look-up reads
pub slot_read :
    (slots : List (Option Pair)) (i : ℕ) (x : Option Pair) → i < length slots → x ≡ get_or slots i x
    → x ≡ slot_at slots i
slot_read [] i x lt is = absurd (omega arith)
slot_read (s ∷ slots) zero x lt is = is
slot_read (s ∷ slots) (suc i) x lt is = slot_read slots i x (omega (arith, lt)) is

pub some_from : (o : Option Pair) (p : Pair) → o ≡ Some p → IsSome o
some_from o p e = rw e refl

pub no_none : (o : Option Pair) → o ≡ None → IsSome o → ⊥
no_none None e some = absurd (grind arith)
no_none (Some p) e some = none-some p (sym e)

-- a slot that is looked at and found empty
pub none_read :
    (slots : List (Option Pair)) (i : ℕ) (x : Option Pair) (b : Bool) → i < length slots
    → x ≡ get_or slots i x → is_some x ≡ not b → b ≡ true → slot_at slots i ≡ None
none_read slots i x b lt is tells e = sym (slot_read slots i x lt is) ∙ by_test x (tells ∙ ap not e)
  where
    by_test : (o : Option Pair) → is_some o ≡ false → o ≡ None
    by_test None t = refl
    by_test (Some p) t = absurd (grind arith)

pub slot_replicate : (n i : ℕ) → slot_at (replicate n None) i ≡ None
slot_replicate zero i = refl
slot_replicate (suc n) zero = refl
slot_replicate (suc n) (suc i) = slot_replicate n i

pub pairs_replicate : (n : ℕ) → pairs_of (replicate n None) ≡ []
pairs_replicate zero = refl
pairs_replicate (suc n) = pairs_replicate n

-- how many pairs a slot has
abbrev pub weight : Option Pair → ℕ
weight None = 0
weight (Some p) = 1

count_cons :
    (s : Option Pair) (slots : List (Option Pair))
    → length (pairs_of (s ∷ slots)) ≡ weight s + length (pairs_of slots)
count_cons None slots = omega arith
count_cons (Some p) slots = omega arith

pub count-set :
    (slots : List (Option Pair)) (i : ℕ) (v : Option Pair) → i < length slots
    → length (pairs_of (slice_set slots i v)) + weight (slot_at slots i) ≡ length (pairs_of slots) + weight v
count-set [] i v lt = absurd (omega arith)
count-set (s ∷ slots) zero v lt = omega (arith, count_cons s slots, count_cons v slots)
count-set (s ∷ slots) (suc i) v lt = omega (arith, count-set slots i v (omega (arith, lt)), count_cons s slots, count_cons s (slice_set slots i v))

-- a run of slots that are all taken is no longer than there are pairs
pub filled_run :
    (slots : List (Option Pair)) (h n : ℕ)
    → ((x : ℕ) → h ≤ x → x < h + n → IsSome (slot_at slots x)) → n ≤ length (pairs_of slots)
filled_run slots h zero all = omega arith
filled_run [] h (suc n) all = absurd (no_none None refl (all h (omega arith) (omega arith)))
filled_run (None ∷ slots) zero (suc n) all = absurd (no_none None refl (all 0 (omega arith) (omega arith)))
filled_run (Some p ∷ slots) zero (suc n) all = omega (arith, filled_run slots 0 n (λ x ge lt. all (suc x) (omega arith) (omega arith)))
filled_run (s ∷ slots) (suc h) (suc n) all = omega (arith, filled_run slots h (suc n) (λ x ge lt. all (suc x) (omega (arith, ge)) (omega (arith, lt))), count_cons s slots)
