use Rattle.nf_laws.proofs.expiry.entries_stay_to_their_last_tick.Goals as goal
use Rattle.nf_laws.proofs.Expiring.{last_tick}

pub returns : goal.returns
returns c = last_tick
