-- Slots with empty ones behind them.
use Rattle.std.proofs.Common.{◌≡◌, ◌∙◌, ap, sym, refl, arith, ℕ, zero, suc, ◌+◌, ◌-◌, ◌<◌, ◌≤◌, List, ◌∷◌, ◌++◌, length, map}
use Rattle.std.specs.Prelude.{Option, None, replicate, slice_set}
use Rattle.std.proofs.lemmas.List.{append_assoc, length-append, length-map, map-append, map-set, set-append_left, replicate-append-replicate}
use Rattle.std.proofs.Math.ListN.{length-set, length-replicate}
use Rattle.hash_slots.specs.declared.cells.Pair.{Pair}
use Rattle.hash_slots.specs.declared.cells.Slot.{Slot}
use Rattle.hash_slots.specs.Cells.{pair_in, empty_slot, filled}

all_empty : (n : ℕ) → map pair_in (replicate n empty_slot) ≡ replicate n None
all_empty zero = refl
all_empty (suc n) = ap (λ (os : List (Option Pair)). None ∷ os) (all_empty n)

pub length-filled :
    (n : ℕ) (slots : List (Option Pair)) → length slots ≤ n → length (filled n slots) ≡ n
length-filled n slots le =
    omega (arith, length-append slots (replicate (n - length slots) None), length-replicate {A = Option Pair} (n - length slots) None, le)

-- of empty ones as many as there are
filled_more :
    (n k : ℕ) (slots : List (Option Pair)) → length slots + k ≤ n
    → filled n (slots ++ replicate k None) ≡ filled n slots
filled_more n k slots le =
    append_assoc slots (replicate k None) (replicate (n - length (slots ++ replicate k None)) None)
    ∙ ap (λ (os : List (Option Pair)). slots ++ os) (replicate-append-replicate k (n - length (slots ++ replicate k None)) None ∙ ap (λ (m : ℕ). replicate m None) all)
  where
    all : k + (n - length (slots ++ replicate k None)) ≡ n - length slots
    all = omega (arith, le, length-append slots (replicate k None), length-replicate {A = Option Pair} k None)

-- slots that only empty ones were added to
pub reached :
    (n k : ℕ) (old slots : List Slot) → slots ≡ old ++ replicate k empty_slot → length slots ≤ n
    → filled n (map pair_in slots) ≡ filled n (map pair_in old)
reached n k old slots e le =
    ap (λ (xs : List Slot). filled n (map pair_in xs)) e
    ∙ ap (filled n) (map-append pair_in old (replicate k empty_slot) ∙ ap (λ (os : List (Option Pair)). map pair_in old ++ os) (all_empty k))
    ∙ filled_more n k (map pair_in old) (omega (arith, le, ap length e, length-append old (replicate k empty_slot), length-replicate {A = Slot} k empty_slot, length-map old pair_in))

-- a slot that is set among those that stand
pub put_among :
    (n i : ℕ) (slots : List Slot) (slot : Slot) (pair : Option Pair) → pair_in slot ≡ pair → i < length slots
    → filled n (map pair_in (slice_set slots i slot)) ≡ slice_set (filled n (map pair_in slots)) i pair
put_among n i slots slot pair is lt =
    ap (filled n) (map-set pair_in slots i slot ∙ ap (slice_set (map pair_in slots) i) is)
    ∙ ap (λ (m : ℕ). slice_set (map pair_in slots) i pair ++ replicate (n - m) None) (length-set (map pair_in slots) i pair)
    ∙ sym (set-append_left (map pair_in slots) (replicate (n - length (map pair_in slots)) None) i pair (omega (arith, lt, length-map slots pair_in)))
