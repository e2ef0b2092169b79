use Rattle.stream_run.proofs.Journals.{journals_one}
use Rattle.stream_run.proofs.laws.journals_are_one.Goals as goal

pub returns : goal.returns
returns c = journals_one
