use Rattle.nf_laws.proofs.records.statements_are_told.Goals as goal
use Rattle.nf_laws.proofs.Telling.{operations, questions, news, ending}

pub returns-clause-operations : goal.returns-clause-operations
returns-clause-operations c = operations

pub returns-clause-questions : goal.returns-clause-questions
returns-clause-questions c = questions

pub returns-clause-news : goal.returns-clause-news
returns-clause-news c = news

pub returns-clause-ends : goal.returns-clause-ends
returns-clause-ends c = ending
