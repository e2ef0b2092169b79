use Rattle.std.proofs.Common.{◌∙◌, drop, subst}
use Rattle.certificate_text.specs.Pieces.{IsFree}
use Rattle.certificate_text.proofs.Cutting.{line_there, lines_free, slice_whole}
use Rattle.certificate_text.proofs.cut.next_line.Goals as goal

pub returns-in-Some-clause-value : goal.returns-in-Some-clause-value
returns-in-Some-clause-value c =
    line_there c.args.text.now c.in-Some.line.now c.in-Some._more.now c.args.from c.in-Some.ensures.0 (c.in-Some.ensures.1 ∙ slice_whole c.args.text.now c.args.from)

pub returns-in-None-clause-value : goal.returns-in-None-clause-value
returns-in-None-clause-value c = lines_free (drop c.args.from c.args.text.now) (subst (IsFree 10) (slice_whole c.args.text.now c.args.from) c.in-None.ensures)
