use Rattle.std.proofs.Common.{arith}
use Rattle.nf_code.proofs.AtDoor.{begins_four, begins_six, none_six, none_past}
use Rattle.nf_code.proofs.ready.Ready.start.Goals as goal

pub returns-then-door-len-clause-none : goal.returns-then-door-len-clause-none
returns-then-door-len-clause-none c =
    let r = c.self.inside in
    rw (← c.self.view_is) (none_past r.func.now c.args.door r.code r.starts c.self.invariant (omega (arith, c.len.ensures.value, c.if-door-len.true)))

pub returns-in-Four-clause-some : goal.returns-in-Four-clause-some
returns-in-Four-clause-some c =
    let r = c.self.inside in
    rw (← c.self.view_is) (begins_four r.func.now c.args.door r.code r.starts c.item-starts.result.now c.self.invariant (omega (arith, c.len.ensures.value, c.if-door-len.false)) c.item-starts.ensures c.in-Four.is)

pub returns-in-Some-clause-some : goal.returns-in-Some-clause-some
returns-in-Some-clause-some c =
    let r = c.self.inside in
    rw (← c.self.view_is) (begins_six r.func.now c.args.door r.code r.starts c.item-starts.result.now c.in-Some.at c.self.invariant (omega (arith, c.len.ensures.value, c.if-door-len.false)) c.item-starts.ensures c.in-Six.is c.in-Some.is)

pub returns-in-None-clause-none : goal.returns-in-None-clause-none
returns-in-None-clause-none c =
    let r = c.self.inside in
    rw (← c.self.view_is) (none_six r.func.now c.args.door r.code r.starts c.item-starts.result.now c.self.invariant (omega (arith, c.len.ensures.value, c.if-door-len.false)) c.item-starts.ensures c.in-Six.is c.in-None.is)
