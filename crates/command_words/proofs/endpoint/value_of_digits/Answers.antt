use Rattle.std.proofs.Common.{arith}
use Rattle.command_words.proofs.Hexadecimal.{grows}
use Rattle.command_words.proofs.endpoint.value_of_digits.Goals as goal

pub overflow_mul-value : goal.overflow_mul-value
overflow_mul-value c =
    let small = grows c.loop-digit.value c.loop-digit.digit-index 0 c.loop-digit.invariant.within (omega (arith, c.loop-digit-test.true, c.requires)) (omega arith) in
    omega (arith, small)

pub overflow_add-value : goal.overflow_add-value
overflow_add-value c =
    let small = grows c.loop-digit.value c.loop-digit.digit-index c.digit_of.result c.loop-digit.invariant.within (omega (arith, c.loop-digit-test.true, c.requires)) c.digit_of.ensures.within in
    omega (arith, small, c.from.ensures)
