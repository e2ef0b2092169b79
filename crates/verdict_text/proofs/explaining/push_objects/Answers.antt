use Rattle.std.proofs.Common.{arith}
use Rattle.std.proofs.lemmas.Grind.{common_steps}
use Rattle.nf_base.specs.Functions.{function_of}
use Rattle.verdict_text.proofs.Ends.{objects_end}
use Rattle.verdict_text.proofs.explaining.push_objects.Goals as goal

pub returns : goal.returns
returns c =
    let done = objects_end (function_of c.args.func.now) c.args.sites.now c.args.objects.now c.args.standings.now c.loop-k.k (omega arith) in
    let all = rw done at c.loop-k.invariant in
    record { ok = grind (arith, common_steps, all) }
