-- the lines so far are plain, by their counts
use Rattle.std.proofs.Common.{◌≡◌, length}
use Rattle.path_walk.specs.Counts.{ArePlain, AreAhead}
use Rattle.path_walk.proofs.counting.texts_ahead.Given as goal

abbrev pub invariant-loop-line : goal.invariant-loop-line
invariant-loop-line l = record {
  ahead : AreAhead l.numbered.lines.items l.ahead.items;
  plain : ArePlain l.texts l.numbered.lines.items l.line-index;
  len : length l.ahead.items ≡ l.line-index;
}
