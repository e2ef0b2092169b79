-- what was read, and what is left, are the whole
use Rattle.std.proofs.Common.{◌≡◌, ◌++◌, length}
use Rattle.run_history.specs.Reading.{listed}
use Rattle.run_history.proofs.Choices.{AreShort}
use Rattle.run_history.proofs.word.indices.Given as goal

abbrev pub invariant-loop-k : goal.invariant-loop-k
invariant-loop-k l = record {
  spelled : listed l.picks ++ l.rest ≡ l.word;
  count : length l.picks ≡ l._k;
  short : AreShort l.picks;
}
