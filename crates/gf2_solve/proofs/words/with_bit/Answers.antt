use Rattle.std.proofs.Common.{◌∙◌, sym, eq-eqb, ne_eqb, w64, arith}
use Rattle.std.proofs.lemmas.Nat.Bits.{bit_at_set_same, bit_at_set_other, bit_at_clear_same, bit_at_clear_other}
use Rattle.gf2_solve.proofs.words.with_bit.Goals as goal

pub returns-then-bit-clause-there : goal.returns-then-bit-clause-there
returns-then-bit-clause-there c = eq-eqb _ 1 (bit_at_set_same w64 c.args.word c.args.place c.requires) ∙ sym c.if-bit.true

pub returns-then-bit-clause-others : goal.returns-then-bit-clause-others
returns-then-bit-clause-others c = λ i h apart. bit_at_set_other w64 c.args.word c.args.place c.requires i apart

pub returns-else-bit-clause-there : goal.returns-else-bit-clause-there
returns-else-bit-clause-there c = ne_eqb _ 1 (λ one. absurd (omega (arith, one, bit_at_clear_same w64 c.args.word c.args.place c.requires))) ∙ sym c.if-bit.false

pub returns-else-bit-clause-others : goal.returns-else-bit-clause-others
returns-else-bit-clause-others c = λ i h apart. bit_at_clear_other w64 c.args.word c.args.place c.requires i h apart
