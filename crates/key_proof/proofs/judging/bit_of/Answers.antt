use Rattle.std.proofs.Common.{◌∙◌, sym}
use Rattle.key_rows.proofs.Bytes.{bit_in_byte}
use Rattle.key_proof.proofs.judging.bit_of.Goals as goal

pub returns-clause-value : goal.returns-clause-value
returns-clause-value c = c.from.ensures ∙ sym (bit_in_byte c.args.key.now c.args.i)
