use Rattle.toeplitz_hash.proofs.OneBit.{one_input_bit_selects}
use Rattle.toeplitz_hash.proofs.laws.one_input_bit_selects.Goals as goal

pub returns : goal.returns
returns c = one_input_bit_selects
