use Rattle.nf_laws.proofs.shares.shares_stop_at_news.Goals as goal
use Rattle.nf_laws.proofs.Stopping.{shares_stop}

pub returns : goal.returns
returns c = shares_stop
