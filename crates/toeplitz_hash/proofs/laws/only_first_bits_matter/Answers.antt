use Rattle.toeplitz_hash.proofs.Linear.{only_first_bits_matter}
use Rattle.toeplitz_hash.proofs.laws.only_first_bits_matter.Goals as goal

pub returns : goal.returns
returns c = only_first_bits_matter
