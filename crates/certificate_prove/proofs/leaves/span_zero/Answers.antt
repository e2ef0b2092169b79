use Rattle.std.proofs.Common.{refl, ◌∙◌, ap, ◌++◌, ◌∷◌, [], get_or}
use Rattle.certificate_laws.specs.declared.line.Line.TheVariants as line
use Rattle.certificate_laws.specs.Leaves.{zero_sums}
use Rattle.certificate_laws.specs.Due.{sum_lines}
use Rattle.certificate_prove.specs.Growing.{no_span}
use Rattle.certificate_prove.proofs.Writing.{zero_written}
use Rattle.certificate_prove.proofs.leaves.span_zero.Goals as goal

pub returns-then-branch-clause-written : goal.returns-then-branch-clause-written
returns-then-branch-clause-written c table positions nameable done =
    let span = get_or c.args.spans.now c.loop-s.s no_span in
    zero_written table positions _ c.args.rows.now c.args.spans.now c.args.fixed.now c.loop-s.s span no_span c.args.out.now.items c.zero_of.new.out.items nameable c.loop-s-test.true
    refl (c.in_ok-zero_of.ensures.yes c.if-branch.true)
    (c.in_ok-zero_of.ensures.written c.if-branch.true ∙ ap (λ l. (l ++ line.Zero span ∷ []) ++ sum_lines (zero_sums span.count span.first)) c.loop-s.invariant.1)
