use Rattle.nf_laws.proofs.locations.news_make_entries.Goals as goal
use Rattle.nf_laws.proofs.Numbered.{news_make, only_news}

pub returns-clause-each : goal.returns-clause-each
returns-clause-each c = news_make

pub returns-clause-only : goal.returns-clause-only
returns-clause-only c = only_news
