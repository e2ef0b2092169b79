use Rattle.toeplitz_hash.proofs.Linear.{zeros_hash_to_zero}
use Rattle.toeplitz_hash.proofs.laws.zeros_hash_to_zero.Goals as goal

pub returns : goal.returns
returns c = zeros_hash_to_zero
