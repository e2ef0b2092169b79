-- what is there, and what is still to come, are the whole
use Rattle.std.proofs.Common.{◌≡◌, ◌++◌, drop}
use Rattle.run_history.specs.StateText.{columns_text}
use Rattle.run_history.proofs.state_text.push_columns.Given as goal

abbrev pub invariant-loop-column : goal.invariant-loop-column
invariant-loop-column l = l.out.items ++ columns_text l.decl l.entry (drop l.column-index l.columns) ≡ l.initial.out.items ++ columns_text l.decl l.entry l.columns
