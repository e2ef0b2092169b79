use Rattle.shard_machine.proofs.rows.two_packets_are_worked.Goals as goal
use Rattle.shard_machine.proofs.Rowed.{worked_both}

pub returns : goal.returns
returns c = worked_both
