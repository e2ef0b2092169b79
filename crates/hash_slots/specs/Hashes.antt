-- The tag of a key: a function of the key, in which both words of each part count.
use Rattle.std.specs.Prelude.{◌≡◌, ℕ, ◌+◌, ◌<◌, ◌*◌, ◌/◌, ◌%◌, ◌^◌, List, bit_xor, bit_and, fold}

-- a product of two numbers below 2^64, with its halves folded into one
abbrev pub mixed : ℕ → ℕ → ℕ
mixed hash by = bit_xor (hash * by / 2 ^ 64) (hash * by % 2 ^ 64)

-- the factor that a hash and a part's low word make
abbrev pub low_factor : ℕ → ℕ → ℕ
low_factor hash part = bit_xor hash (part % 2 ^ 64)

-- the factor that a part's high word makes
abbrev pub high_factor : ℕ → ℕ
high_factor part = bit_xor (part / 2 ^ 64) 0x9E3779B97F4A7C15

-- a hash with a key's part mixed in: the product of the two factors, and the one of the low word
-- once more, as it would be lost where the other one is 0
abbrev pub step : ℕ → ℕ → ℕ
step hash part =
    (mixed (low_factor hash part) (high_factor part) + low_factor hash part) % 2 ^ 64

-- the low 32 bits of a key's hash
unfoldable pub tag_of : List ℕ → ℕ
tag_of key =
    bit_and (mixed (fold step 0xD1B54A32D192ED03 key) 0xD1B54A32D192ED03) 0xFFFFFFFF

-- The hash and a part's low word count also where the high word is the odd number, and its factor 0.
abbrev pub LowWordsCount : Type 0
LowWordsCount = (hash low : ℕ) → hash < 2 ^ 64 → low < 2 ^ 64
    → step hash (low + 2 ^ 64 * 0x9E3779B97F4A7C15) ≡ bit_xor hash low
