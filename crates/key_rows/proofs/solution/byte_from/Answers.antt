use Rattle.std.proofs.Common.{◌+◌, ◌*◌, sym, lit<}
use Rattle.toeplitz_hash.proofs.Numbers.{number_of-none}
use Rattle.key_rows.specs.Solutions.{solution_bit}
use Rattle.key_rows.proofs.Bytes.{one_bit_more, fits_more}
use Rattle.key_rows.proofs.solution.byte_from.Goals as goal

pub loop-j-init : goal.loop-j-init
loop-j-init c = record {
  so_far = sym (number_of-none (λ j. solution_bit c.args.bits.now c.args.port c.args.count (8 * c.args.i + j)));
  fits = lit< tt;
}

pub loop-j-preserved : goal.loop-j-preserved
loop-j-preserved c = record {
  so_far = one_bit_more (λ j. solution_bit c.args.bits.now c.args.port c.args.count (8 * c.args.i + j)) c.loop-j.j c.loop-j.byte c.bit_from.result c.loop-j.invariant.so_far c.bit_from.ensures.value;
  fits = fits_more c.loop-j.j c.loop-j.byte c.bit_from.result c.loop-j.invariant.fits c.bit_from.ensures.bit;
}
