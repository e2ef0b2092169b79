use Rattle.nf_laws.proofs.shares.none_vacant_is_none.Goals as goal
use Rattle.nf_laws.proofs.Owned.{none_vacant_is}

pub returns : goal.returns
returns c = none_vacant_is
