use Rattle.std.proofs.Common.{◌∙◌, ap, ◌++◌, ◌∷◌, []}
use Rattle.certificate_laws.specs.declared.line.Line.TheVariants as line
use Rattle.certificate_prove.specs.Growing.{row_terms}
use Rattle.certificate_prove.proofs.Writing.{clash_written}
use Rattle.certificate_prove.proofs.leaves.row_clash.Goals as goal

pub returns-then-branch-clause-written : goal.returns-then-branch-clause-written
returns-then-branch-clause-written c table positions spans nameable done =
    clash_written table positions _ c.args.rows.now spans c.args.fixed.now c.loop-k.k c.as_slice.result.now c.index-rows-k.result c.args.out.now.items c.clash_of.new.out.items nameable c.loop-k-test.true
    (c.as_slice.ensures ∙ c.index-rows-k.is) (c.in_ok-clash_of.ensures.yes c.if-branch.true)
    (c.in_ok-clash_of.ensures.written c.if-branch.true ∙ ap (λ l. (l ++ line.Clash ∷ []) ++ line.Sum (row_terms c.loop-k.k c.as_slice.result.now) ∷ []) c.loop-k.invariant.1)
