use Rattle.toeplitz_hash.proofs.OneBit.{one_key_bit_selects}
use Rattle.toeplitz_hash.proofs.laws.one_key_bit_selects.Goals as goal

pub returns : goal.returns
returns c = one_key_bit_selects
