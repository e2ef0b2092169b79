-- The default keys.
use Rattle.std.proofs.Common.{◌≡◌, ℕ, ◌<◌, List, take, refl}
use Rattle.nf_base.specs.declared.card.KeySize.{KeySize}
use Rattle.nf_base.specs.declared.card.KeySize.TheVariants.{Bytes40, Bytes52}
use Rattle.nf_base.specs.Cards.{key_bytes}
use Rattle.toeplitz_hash.specs.declared.key.TheConstants.{DEFAULT_KEY, REPEATED_KEY}
use Rattle.toeplitz_hash.specs.Bits.{bit_of}
use Rattle.toeplitz_hash.specs.DefaultKey.{default_key, DefaultKeysAgree}
use Rattle.toeplitz_hash.proofs.Bytes.{bit_of_front}

pub default_front : (size : KeySize) → take (key_bytes size) REPEATED_KEY ≡ default_key size
default_front Bytes40 = refl
default_front Bytes52 = refl

pub default_keys_agree : DefaultKeysAgree
default_keys_agree Bytes40 i within = refl
default_keys_agree Bytes52 i within = bit_of_front DEFAULT_KEY (take 12 DEFAULT_KEY) i within
