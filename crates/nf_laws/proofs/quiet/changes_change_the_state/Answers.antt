use Rattle.nf_laws.proofs.quiet.changes_change_the_state.Goals as goal
use Rattle.nf_laws.proofs.Quieted.{changes_are}
use Rattle.nf_laws.proofs.Changed.{operations_change, news_change}

pub returns-clause-events : goal.returns-clause-events
returns-clause-events c = changes_are

pub returns-clause-operations : goal.returns-clause-operations
returns-clause-operations c = operations_change

pub returns-clause-news : goal.returns-clause-news
returns-clause-news c = news_change
