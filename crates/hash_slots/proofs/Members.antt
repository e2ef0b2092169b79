-- The pairs of slots as a list.
use Rattle.std.proofs.Common.{◌≡◌, ap, arith, ℕ, zero, suc, List, [], ◌∷◌}
use Rattle.std.specs.Prelude.{Option, Some, None, Contains}
use Rattle.std.proofs.lemmas.Option.{none-some, same_Some}
use Rattle.hash_slots.specs.declared.cells.Pair.{Pair}
use Rattle.hash_slots.specs.Places.{slot_at, pairs_of}

behind : (q : Pair) (ps : List Pair) (p : Pair) → Contains ps p → Contains (q ∷ ps) p
behind q ps p h = (suc h.0, omega (arith, h.1), h.2)

-- what stands in a slot is one of the pairs
pub listed :
    (slots : List (Option Pair)) (i : ℕ) (p : Pair) → slot_at slots i ≡ Some p
    → Contains (pairs_of slots) p
listed [] i p at = absurd (none-some p at)
listed (None ∷ slots) zero p at = absurd (none-some p at)
listed (None ∷ slots) (suc i) p at = listed slots i p at
listed (Some q ∷ slots) zero p at = (0, omega arith, same_Some q p at)
listed (Some q ∷ slots) (suc i) p at = behind q (pairs_of slots) p (listed slots i p at)

-- each of the pairs stands in a slot
pub placed :
    (slots : List (Option Pair)) (p : Pair) → Contains (pairs_of slots) p
    → (i : ℕ) × (slot_at slots i ≡ Some p)
placed [] p h = absurd (omega (arith, h.1))
placed (None ∷ slots) p h = let r = placed slots p h in (suc r.0, r.1)
placed (Some q ∷ slots) p (zero, lt, is) = (0, ap (λ (x : Pair). Some x) is)
placed (Some q ∷ slots) p (suc k, lt, is) =
    let r = placed slots p (k, omega (arith, lt), is) in (suc r.0, r.1)
