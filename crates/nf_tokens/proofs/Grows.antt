-- More digits make no smaller value.
use Rattle.std.proofs.Common.{◌≡◌, ◌∷◌, ◌+◌, ◌*◌, ◌≤◌, ◌<◌, ◌^◌, ℕ, zero, suc, List, [], length, drop, get_or, None, arith}
use Rattle.nf_tokens.specs.Bytes.{digit_of}
use Rattle.nf_tokens.specs.Numbers.{value_from, fitting}

pub decimal_grows : (v : ℕ) (ds : List ℕ) → v ≤ value_from 10 v ds
decimal_grows v [] = omega arith
decimal_grows v (d ∷ ds) = let h = decimal_grows (v * 10 + digit_of d) ds in omega (arith, h)

pub hex_grows : (v : ℕ) (ds : List ℕ) → v ≤ value_from 16 v ds
hex_grows v [] = omega arith
hex_grows v (d ∷ ds) = let h = hex_grows (v * 16 + digit_of d) ds in omega (arith, h)

pub decimal_over : (v : ℕ) (ds : List ℕ) → 2 ^ 64 ≤ v → fitting (value_from 10 v ds) ≡ None
decimal_over v ds h = let g = decimal_grows v ds in grind (arith, h, g)

pub hex_over : (v : ℕ) (ds : List ℕ) → 2 ^ 64 ≤ v → fitting (value_from 16 v ds) ≡ None
hex_over v ds h = let g = hex_grows v ds in grind (arith, h, g)

-- a digit that takes a value past 64 bits
pub decimal_gone : (v i : ℕ) (ds : List ℕ) → i < length ds → 2 ^ 64 ≤ v * 10 + digit_of (get_or ds i 0) → fitting (value_from 10 v (drop i ds)) ≡ None
decimal_gone v i [] lt h = absurd (omega arith)
decimal_gone v zero (d ∷ ds) lt h = decimal_over (v * 10 + digit_of d) ds h
decimal_gone v (suc i) (d ∷ ds) lt h = decimal_gone v i ds (omega arith) h

-- a digit that takes a value past 64 bits
pub hex_gone : (v i : ℕ) (ds : List ℕ) → i < length ds → 2 ^ 64 ≤ v * 16 + digit_of (get_or ds i 0) → fitting (value_from 16 v (drop i ds)) ≡ None
hex_gone v i [] lt h = absurd (omega arith)
hex_gone v zero (d ∷ ds) lt h = hex_over (v * 16 + digit_of d) ds h
hex_gone v (suc i) (d ∷ ds) lt h = hex_gone v i ds (omega arith) h
