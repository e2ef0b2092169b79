use Rattle.toeplitz_hash.proofs.Linear.{hashes_have_bits}
use Rattle.toeplitz_hash.proofs.laws.hashes_have_bits.Goals as goal

pub returns : goal.returns
returns c = hashes_have_bits
