use Rattle.std.proofs.Common.{arith}
use Rattle.pcapng_file.proofs.Options.{units_some}
use Rattle.pcapng_file.proofs.resolution.nanoseconds.Goals as goal

pub nonzero_div-total : goal.nonzero_div-total
nonzero_div-total c = omega (arith, units_some c.args.resolution, c.in-Some.ensures)
