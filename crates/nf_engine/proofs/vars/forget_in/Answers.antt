use Rattle.std.proofs.Common.{◌∙◌, ◌<◌, ap, arith, length}
use Rattle.std.specs.Prelude.{slice_set}
use Rattle.nf_base.specs.Operations.{unless_at}
use Rattle.nf_engine.proofs.Scoped.{changed_more}
use Rattle.nf_engine.proofs.vars.forget_in.Goals as goal

pub loop-k-preserved : goal.loop-k-preserved
loop-k-preserved c =
    let vars = c.args.entries.now in
    let lt : c.loop-k.k < length vars = omega (arith, c.told-entries, c.loop-k-test.true) in
    ap (slice_set c.loop-k.entries c.loop-k.k) c.unless_here.ensures ∙ changed_more (unless_at c.args.gone) vars c.loop-k.entries c.loop-k.k c.index-entries-k.result lt c.loop-k.invariant
