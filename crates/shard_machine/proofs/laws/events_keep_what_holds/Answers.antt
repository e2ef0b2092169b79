use Rattle.shard_machine.proofs.laws.events_keep_what_holds.Goals as goal
use Rattle.shard_machine.proofs.Kept.{new_holds, events_keep}

pub returns-clause-begin : goal.returns-clause-begin
returns-clause-begin c = new_holds

pub returns-clause-go_on : goal.returns-clause-go_on
returns-clause-go_on c = events_keep
