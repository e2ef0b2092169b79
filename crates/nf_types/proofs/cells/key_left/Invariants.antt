-- what is left is left of the rest
use Rattle.std.proofs.Common.{◌≡◌, ◌+◌, drop, map}
use Rattle.nf_tree.specs.View as syntax
use Rattle.nf_types.specs.Statements.{key_cells}
use Rattle.nf_types.proofs.cells.key_left.Given as goal

abbrev pub invariant-loop-one : goal.invariant-loop-one
invariant-loop-one l = l.left + key_cells (map syntax.expression_of l.key) ≡ l.room + key_cells (map syntax.expression_of (drop l.one-index l.key))
