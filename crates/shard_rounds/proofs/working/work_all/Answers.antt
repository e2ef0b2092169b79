use Rattle.std.proofs.Common.{Bool, sym, ◌∙◌, subst, arith}
use Rattle.shard_rounds.specs.Workings.{WentOn}
use Rattle.nf_base.specs.Functions.{function_of}
use Rattle.shard_core.specs.Held.{begins}
use Rattle.shard_rounds.proofs.Called.{stops_here}
use Rattle.shard_rounds.proofs.working.work_all.Goals as goal

pub loop-packet-init : goal.loop-packet-init
loop-packet-init g c = record { calls = 0; long = omega arith; times = begins; can = c.requires }

pub returns-then-not-work_one : goal.returns-then-not-work_one
returns-then-not-work_one g c =
    stops_here (function_of c.args.func.now) c.args.worker.now c.loop-packet.worker c.work_one.new.worker c.loop-packet.invariant.calls c.in-Some.packet c.loop-packet.invariant.long (sym c.waiting.ensures ∙ c.in-Some.is)
    (subst (λ (b : Bool). WentOn b c.loop-packet.worker c.work_one.new.worker) c.if-not-work_one.true c.work_one.ensures.went)
    (c.work_one.ensures.times c.loop-packet.invariant.calls c.args.worker.now c.loop-packet.invariant.times)
