use Rattle.nf_base.specs.Functions.{function_of}
use Rattle.lock_workers.proofs.Joined.{alone_of}
use Rattle.lock_workers.proofs.running.work_alone.Goals as goal

pub joined-requires-clause-shared : goal.joined-requires-clause-shared
joined-requires-clause-shared c =
    alone_of (function_of c.args.func.now) c.args.packets.now c.in_ok-own.own c.in-Ok.order c.handle_all.new.tables c.in_ok-own.ensures c.in-Ok.ensures.runs c.in-Ok.ensures.all
