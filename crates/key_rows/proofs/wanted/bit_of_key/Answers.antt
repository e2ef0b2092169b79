use Rattle.std.proofs.Common.{ℕ, ◌==◌, ap, sym}
use Rattle.key_rows.proofs.Bytes.{bit_in_byte}
use Rattle.key_rows.proofs.wanted.bit_of_key.Goals as goal

pub returns : goal.returns
returns c = ap (λ (n : ℕ). n == 1) (sym (bit_in_byte c.args.key.now c.args.i))
