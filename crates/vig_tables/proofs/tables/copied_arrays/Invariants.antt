-- what was copied is the front
use Rattle.std.proofs.Common.{◌≡◌, take}
use Rattle.vig_tables.proofs.tables.copied_arrays.Given as goal

abbrev pub invariant-loop-cells : goal.invariant-loop-cells
invariant-loop-cells l = l.copy ≡ take l.cells-index l.arrays
