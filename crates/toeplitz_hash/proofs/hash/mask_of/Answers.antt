use Rattle.std.proofs.Common.{arith}
use Rattle.toeplitz_hash.proofs.Bytes.{bit_of_one}
use Rattle.toeplitz_hash.proofs.hash.mask_of.Goals as goal

pub returns : goal.returns
returns c = omega (arith, bit_of_one c.args.byte c.args.i c.requires)
