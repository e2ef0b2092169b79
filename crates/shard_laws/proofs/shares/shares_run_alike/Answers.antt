use Rattle.shard_laws.proofs.shares.shares_run_alike.Goals as goal
use Rattle.shard_laws.proofs.Stopped.{shares_halt_own}
use Rattle.shard_laws.proofs.Sharing.{run_is}

pub returns-clause-halts : goal.returns-clause-halts
returns-clause-halts c = shares_halt_own

pub returns-clause-runs : goal.returns-clause-runs
returns-clause-runs c = run_is
