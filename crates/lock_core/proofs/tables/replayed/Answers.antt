use Rattle.std.proofs.Common.{arith}
use Rattle.std.proofs.lemmas.List.{length-map}
use Rattle.nf_base.specs.Handlers.{blocks_of}
use Rattle.nf_base.specs.Functions.{function_of}
use Rattle.lock_core.proofs.Sights.{next_steps, next_behind, in_at}
use Rattle.lock_core.proofs.tables.replayed.Goals as goal

pub go_on-requires-clause-port : goal.go_on-requires-clause-port
go_on-requires-clause-port c =
    let at = in_at (function_of c.args.func.now) c.args.order.now c.loop-x.x-index c.x-item.result c.loop-x-test.true c.x-item.is c.requires.packets in
    omega (arith, at.0, length-map c.args.func.now.handlers blocks_of)

pub go_on-requires-clause-served : goal.go_on-requires-clause-served
go_on-requires-clause-served c =
    let at = in_at (function_of c.args.func.now) c.args.order.now c.loop-x.x-index c.x-item.result c.loop-x-test.true c.x-item.is c.requires.packets in
    at.1

pub go_on-requires-clause-steps : goal.go_on-requires-clause-steps
go_on-requires-clause-steps c =
    next_steps (function_of c.args.func.now) c.args.order.now c.loop-x.x-index c.x-item.result c.loop-x.tables c.loop-x-test.true c.x-item.is c.loop-x.invariant c.requires.comes

pub loop-x-preserved : goal.loop-x-preserved
loop-x-preserved c =
    next_behind (function_of c.args.func.now) c.args.order.now c.loop-x.x-index c.x-item.result c.loop-x.tables c.go_on.new.tables c.loop-x-test.true c.x-item.is c.loop-x.invariant c.go_on.ensures.goes c.go_on.ensures.same
