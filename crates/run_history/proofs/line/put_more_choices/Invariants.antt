-- what is there, and what is still to come, are the whole
use Rattle.std.proofs.Common.{◌≡◌, ◌+◌, ◌*◌, ◌≤◌, ◌++◌, length, take, drop}
use Rattle.run_history.specs.Line.{more_choices}
use Rattle.run_history.proofs.line.put_more_choices.Given as goal

abbrev pub invariant-loop-index : goal.invariant-loop-index
invariant-loop-index l = record {
  text : take l.end l.room ++ more_choices (drop l.index-index l.picks) ≡ take l.at l.fn.room ++ more_choices l.picks;
  ends : l.end + length (more_choices (drop l.index-index l.picks)) ≡ l.at + length (more_choices l.picks);
  within : l.end ≤ l.at + 11 * l.index-index;
}
