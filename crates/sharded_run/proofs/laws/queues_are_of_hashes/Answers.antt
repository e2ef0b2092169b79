use Rattle.sharded_run.proofs.Queued.{of_hashes}
use Rattle.sharded_run.proofs.laws.queues_are_of_hashes.Goals as goal

pub returns : goal.returns
returns c = of_hashes
