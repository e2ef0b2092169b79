use Rattle.std.proofs.Common.{◌≡◌, ◌∙◌, ◌+◌, ◌≤◌, true, sym, ap, List, length, arith}
use Rattle.certificate_laws.specs.declared.line.Span.{Span}
use Rattle.certificate_laws.specs.Trees.{is_span}
use Rattle.certificate_check.specs.Checking.{width}
use Rattle.certificate_check.proofs.Taking.{span_within}
use Rattle.certificate_check.proofs.checker.Checker.zero.Goals as goal

pub zeros-requires : goal.zeros-requires
zeros-requires c =
    let named : is_span c.self.inside.spans c.args.span ≡ true = ap (λ (l : List Span). is_span l c.args.span) (sym c.as_slice.ensures) ∙ sym c.is_span.ensures ∙ c.if-not-is_span.false in
    let fits : c.args.span.first + c.args.span.count ≤ length c.self.inside.fixed.items =
    span_within (length c.self.inside.fixed.items) c.self.inside.spans c.args.span named c.self.invariant.spans in
    omega (arith, fits, ap width c.self.view_is)
