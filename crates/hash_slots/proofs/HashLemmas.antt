-- A part whose high word makes a factor 0.
use Rattle.std.proofs.Common.{◌≡◌, ◌∙◌, refl, arith, ℕ, ◌+◌, ◌*◌, ◌/◌, ◌%◌, ◌^◌}
use Rattle.std.specs.Prelude.{bit_xor}
use Rattle.std.proofs.Math.Nat.{add-mul-mod_self_left, mod-eq_of_lt, mul-zero, zero-add}
use Rattle.std.proofs.lemmas.Nat.{xor_lt}
use Rattle.hash_slots.specs.Hashes.{mixed, LowWordsCount}

no_product : (a : ℕ) → mixed a 0 ≡ 0
no_product a = rw (mul-zero a) refl

pub low_words_stay : LowWordsCount
low_words_stay hash low hash_fits low_fits = rw (low_is, high_is, no_product (bit_xor hash low), zero-add (bit_xor hash low)) (mod-eq_of_lt (xor_lt 64 hash low hash_fits low_fits))
  where
    low_is : (low + 2 ^ 64 * 0x9E3779B97F4A7C15) % 2 ^ 64 ≡ low
    low_is = add-mul-mod_self_left low (2 ^ 64) 0x9E3779B97F4A7C15 ∙ mod-eq_of_lt low_fits

    high_is : (low + 2 ^ 64 * 0x9E3779B97F4A7C15) / 2 ^ 64 ≡ 0x9E3779B97F4A7C15
    high_is = omega (arith, low_fits)
