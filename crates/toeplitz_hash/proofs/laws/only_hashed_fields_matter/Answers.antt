use Rattle.toeplitz_hash.proofs.Hashed.{only_hashed_fields_matter}
use Rattle.toeplitz_hash.proofs.laws.only_hashed_fields_matter.Goals as goal

pub returns : goal.returns
returns c = only_hashed_fields_matter
