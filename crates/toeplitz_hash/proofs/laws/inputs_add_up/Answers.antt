use Rattle.toeplitz_hash.proofs.Hashes.{toeplitz_of-append}
use Rattle.toeplitz_hash.proofs.laws.inputs_add_up.Goals as goal

pub returns : goal.returns
returns c = toeplitz_of-append
