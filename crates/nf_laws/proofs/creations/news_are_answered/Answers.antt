use Rattle.nf_laws.proofs.creations.news_are_answered.Goals as goal
use Rattle.nf_laws.proofs.Answered.{news_answer}

pub returns : goal.returns
returns c = news_answer
