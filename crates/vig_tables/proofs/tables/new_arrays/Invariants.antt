-- those so far are copied
use Rattle.std.proofs.Common.{◌≡◌, take, map}
use Rattle.nf_base.specs.Step.{opening_cells}
use Rattle.vig_tables.proofs.tables.new_arrays.Given as goal

abbrev pub invariant-loop-decl : goal.invariant-loop-decl
invariant-loop-decl l = l.arrays ≡ map opening_cells (take l.decl-index l.decls)
