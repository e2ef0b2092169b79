use Rattle.shard_laws.proofs.packets_step_alike.Goals as goal
use Rattle.shard_laws.proofs.Opening.{packets_step_alike}

pub returns : goal.returns
returns c = packets_step_alike
