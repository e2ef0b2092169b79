-- what is there, and what is still to come, are the whole
use Rattle.std.proofs.Common.{◌≡◌, ◌++◌, drop}
use Rattle.run_history.specs.StateText.{cells_text}
use Rattle.run_history.proofs.state_text.push_cells.Given as goal

abbrev pub invariant-loop-index : goal.invariant-loop-index
invariant-loop-index l = l.out.items ++ cells_text l.index (drop l.index l.opening) (drop l.index l.cells) ≡ l.initial.out.items ++ cells_text 0 l.opening l.cells
