-- what is left is left of the rest
use Rattle.std.proofs.Common.{◌≡◌, ◌+◌, drop, map}
use Rattle.nf_tree.specs.View as syntax
use Rattle.nf_types.specs.Statements.{given_cells}
use Rattle.nf_types.proofs.cells.given_left.Given as goal

abbrev pub invariant-loop-one : goal.invariant-loop-one
invariant-loop-one l = l.left + given_cells (map syntax.given_of l.given) ≡ l.room + given_cells (map syntax.given_of (drop l.one-index l.given))
