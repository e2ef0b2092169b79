-- The number that 32 hexadecimal digits make is below 2^128.
use Rattle.std.proofs.Common.{ℕ, ◌+◌, ◌*◌, ◌^◌, ◌<◌, ◌≤◌, arith}
use Rattle.std.proofs.Math.Nat.{pow-le-pow_right}

pub grows : (v i d : ℕ) → v < 16 ^ i → i < 32 → d < 16 → v * 16 + d < 2 ^ 128
grows v i d small within digit =
    let last : i ≤ 31 = omega (arith, within) in
    let most : 16 ^ i ≤ 16 ^ 31 = pow-le-pow_right {n = 16} (omega arith) {i = i} {j = 31} last in
    omega (arith, small, most, digit)
