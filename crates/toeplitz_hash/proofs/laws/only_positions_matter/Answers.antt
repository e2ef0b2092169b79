use Rattle.toeplitz_hash.proofs.Linear.{only_positions_matter}
use Rattle.toeplitz_hash.proofs.laws.only_positions_matter.Goals as goal

pub returns : goal.returns
returns c = only_positions_matter
