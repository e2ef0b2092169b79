-- The default key of each size.
use Rattle.std.specs.Prelude.{◌≡◌, ℕ, ◌<◌, List, ◌++◌, take}
use Rattle.nf_base.specs.declared.card.KeySize.{KeySize}
use Rattle.nf_base.specs.declared.card.KeySize.TheVariants.{Bytes40, Bytes52}
use Rattle.toeplitz_hash.specs.declared.key.TheConstants.{DEFAULT_KEY}
use Rattle.toeplitz_hash.specs.Bits.{bit_of}

-- The longer one begins anew behind its 40 bytes.
abbrev pub default_key : KeySize → List ℕ
default_key Bytes40 = DEFAULT_KEY
default_key Bytes52 = DEFAULT_KEY ++ take 12 DEFAULT_KEY

-- Both have the same bits up to the last one that an input meets.
abbrev pub DefaultKeysAgree : Type 0
DefaultKeysAgree = (size : KeySize) (i : ℕ) → i < 320 →
    bit_of (default_key size) i ≡ bit_of DEFAULT_KEY i
