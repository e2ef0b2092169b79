use Rattle.sharded_run.proofs.Queued.{next_next}
use Rattle.sharded_run.proofs.laws.next_is_next.Goals as goal

pub returns : goal.returns
returns c = next_next
