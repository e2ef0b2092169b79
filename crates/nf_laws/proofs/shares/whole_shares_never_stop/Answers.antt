use Rattle.nf_laws.proofs.shares.whole_shares_never_stop.Goals as goal
use Rattle.nf_laws.proofs.AlikeTold.{whole_shares}

pub returns : goal.returns
returns c = whole_shares
