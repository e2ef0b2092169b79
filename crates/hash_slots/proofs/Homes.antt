-- How many slots searches begin in.
use Rattle.std.proofs.Common.{◌≡◌, ◌∙◌, ap, sym, arith, ℕ, ◌+◌, ◌*◌, ◌^◌, ◌<◌, ◌≤◌, List, length, inl, inr}
use Rattle.std.specs.Prelude.{Option}
use Rattle.std.specs.Int.{IsPowerOfTwo}
use Rattle.std.proofs.lemmas.Bool.{cases_eq, cases_lt}
use Rattle.std.proofs.Math.Pow.{pow_mono}
use Rattle.std.proofs.lemmas.Nat.{pow-add}
use Rattle.hash_slots.specs.declared.cells.Pair.{Pair}
use Rattle.hash_slots.specs.Tags.{AreSound}

pow_next : (k : ℕ) → 2 ^ (k + 1) ≡ 2 ^ k + 2 ^ k
pow_next k = pow-add 2 k 1 ∙ (let e : 2 ^ k * 2 ≡ 2 ^ k + 2 ^ k = omega arith in e)

not_below :
    (n a b k l : ℕ) → a ≡ 2 ^ k → b ≡ 2 ^ l → n ≤ a → b < 2 * n → k < l → ⊥
not_below n a b k l ka lb low high lt = omega (arith, ka, lb, pow_mono {i = k + 1} {j = l} (omega arith), pow_next k)

-- of numbers from one up to below its double there is one power of two
same_power :
    (n a b : ℕ) → IsPowerOfTwo a → IsPowerOfTwo b → n ≤ a → a < 2 * n → n ≤ b → b < 2 * n → a ≡ b
same_power n a b pa pb la ha lb hb = elim (cases_eq pa.0 pb.0) [
  | inl e ↦ pa.1 ∙ ap (λ (k : ℕ). 2 ^ k) e ∙ sym pb.1
  | inr ne ↦ elim (cases_lt pa.0 pb.0) [
    | inl lt ↦ absurd (not_below n a b pa.0 pb.0 pa.1 pb.1 la hb lt)
    | inr ge ↦ absurd (not_below n b a pb.0 pa.0 pb.1 pa.1 lb ha (omega arith))
  ]
]

pub same_room :
    (slots others : List (Option Pair)) (mask mask' held held' most : ℕ)
    → AreSound slots mask held most → AreSound others mask' held' most
    → length slots ≡ length others
same_room slots others mask mask' held held' most k l =
    omega (arith, k.room, l.room, same_power (2 * most) (mask + 1) (mask' + 1) k.power l.power k.wide (omega (arith, k.narrow)) l.wide (omega (arith, l.narrow)))
