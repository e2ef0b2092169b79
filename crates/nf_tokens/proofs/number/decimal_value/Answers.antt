use Rattle.std.proofs.Common.{◌∙◌, ap, sym, arith}
use Rattle.nf_tokens.specs.Numbers.{fitting}
use Rattle.nf_tokens.proofs.Grows.{decimal_gone}
use Rattle.nf_tokens.proofs.number.decimal_value.Goals as goal

pub returns-then-next : goal.returns-then-next
returns-then-next c = sym (ap fitting (sym c.loop-b.invariant)
    ∙ decimal_gone c.loop-b.value c.loop-b.b-index c.args.digits.now (omega (arith, c.loop-b-test.true)) (grind (arith, c.if-next.true, c.digit_of.ensures)))
