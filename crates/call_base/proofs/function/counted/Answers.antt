use Rattle.std.proofs.Common.{arith}
use Rattle.nf_base.specs.Functions.{function_of}
use Rattle.call_base.proofs.Walked.{ports_of, counts_more, few_more, few_all, uncounted}
use Rattle.call_base.proofs.function.counted.Goals as goal

pub ports-preserved : goal.ports-preserved
ports-preserved c =
    let f = function_of c.args.func.now in
    let found = c.in-Ok.ensures in
    record {
      so_far = counts_more f c.ports.counts.items c.push.new.self.items c.ports.port c.in-Ok.count c.ports.invariant.so_far c.in-Ok-push.ensures.items found.counts;
      few = few_more f c.ports.port c.ports.invariant.few found.few;
    }

pub returns-in-Err-clause-many : goal.returns-in-Err-clause-many
returns-in-Err-clause-many c =
    let f = function_of c.args.func.now in
    uncounted f c.ports.port c.in-Err.uncounted (omega (arith, ports_of c.args.func.now)) c.ports.invariant.few c.in-Err.ensures.many

pub returns-clause-few : goal.returns-clause-few
returns-clause-few c = few_all c.args.func.now c.ports.port (omega arith) c.ports.invariant.few
