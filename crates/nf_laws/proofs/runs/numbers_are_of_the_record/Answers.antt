use Rattle.nf_laws.proofs.runs.numbers_are_of_the_record.Goals as goal
use Rattle.nf_laws.proofs.Reported.{numbers_are}

pub returns : goal.returns
returns c = numbers_are
