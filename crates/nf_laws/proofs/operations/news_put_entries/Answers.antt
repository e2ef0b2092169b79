use Rattle.nf_laws.proofs.operations.news_put_entries.Goals as goal
use Rattle.nf_laws.proofs.Effected.{news_make_entries}

pub returns : goal.returns
returns c = news_make_entries
