use Rattle.nf_laws.proofs.records.answers_are_told.Goals as goal
use Rattle.nf_laws.proofs.Replied.{results_of_news, legal_answered, full_answers}

pub returns-clause-news : goal.returns-clause-news
returns-clause-news c = results_of_news

pub returns-clause-legal : goal.returns-clause-legal
returns-clause-legal c = legal_answered

pub returns-clause-full : goal.returns-clause-full
returns-clause-full c = full_answers
