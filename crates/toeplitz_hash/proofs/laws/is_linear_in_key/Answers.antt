use Rattle.toeplitz_hash.proofs.Linear.{is_linear_in_key}
use Rattle.toeplitz_hash.proofs.laws.is_linear_in_key.Goals as goal

pub returns : goal.returns
returns c = is_linear_in_key
