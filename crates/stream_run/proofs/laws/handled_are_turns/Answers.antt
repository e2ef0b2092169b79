use Rattle.stream_run.proofs.Going.{are_turns}
use Rattle.stream_run.proofs.laws.handled_are_turns.Goals as goal

pub returns : goal.returns
returns c = are_turns
