use Rattle.nf_base.specs.Functions.{function_of}
use Rattle.shard_machine.specs.declared.event.Worked.TheVariants as result
use Rattle.shard_rounds.proofs.Called.{still_can}
use Rattle.shard_rounds.proofs.working.work_one.Goals as goal

pub returns-in-Done-clause-can : goal.returns-in-Done-clause-can
returns-in-Done-clause-can g c = still_can c.args.func.now (function_of c.args.func.now) result.Done c.args.worker.now c.work.new.self c.in-Done.ensures.works c.in-Done.ensures.fixed c.requires.can
