-- The sizes of keys.
use Rattle.std.proofs.Common.{◌≤◌, arith}
use Rattle.nf_base.specs.Cards.{key_bytes}
use Rattle.nf_base.specs.declared.card.KeySize.{KeySize}
use Rattle.nf_base.specs.declared.card.KeySize.TheVariants.{Bytes40, Bytes52}

pub key_fits : (size : KeySize) → key_bytes size ≤ 52
key_fits Bytes40 = omega arith
key_fits Bytes52 = omega arith
