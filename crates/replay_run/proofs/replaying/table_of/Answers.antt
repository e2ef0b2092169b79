use Rattle.replay_run.proofs.Keyed.{some_workers}
use Rattle.replay_run.proofs.replaying.table_of.Goals as goal

pub returns-clause-some : goal.returns-clause-some
returns-clause-some c = some_workers c.args.header.now c.mode-mode.ensures.heading
