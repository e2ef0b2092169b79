-- what is there, and what is still to come, are the whole
use Rattle.std.proofs.Common.{◌≡◌, ◌++◌, drop}
use Rattle.run_history.specs.Line.{more_choices}
use Rattle.run_history.proofs.line.push_more_choices.Given as goal

abbrev pub invariant-loop-index : goal.invariant-loop-index
invariant-loop-index l = l.out.items ++ more_choices (drop l.index-index l.picks) ≡ l.initial.out.items ++ more_choices l.picks
