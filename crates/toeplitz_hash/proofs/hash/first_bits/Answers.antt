use Rattle.std.proofs.Common.{arith}
use Rattle.toeplitz_hash.proofs.Bytes.{first_five}
use Rattle.toeplitz_hash.proofs.hash.first_bits.Goals as goal

pub returns : goal.returns
returns c =
    omega (arith, c.from_be_bytes-high.ensures, first_five c.args.key.now (λ i. let fits = c.type_inv.key i in omega arith))
