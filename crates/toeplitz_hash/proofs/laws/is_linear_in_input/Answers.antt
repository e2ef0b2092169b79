use Rattle.toeplitz_hash.proofs.Linear.{is_linear_in_input}
use Rattle.toeplitz_hash.proofs.laws.is_linear_in_input.Goals as goal

pub returns : goal.returns
returns c = is_linear_in_input
