-- the lines so far have numbers
use Rattle.std.proofs.Common.{map, take}
use Rattle.std.specs.BTreeMap.{get_by}
use Rattle.std.specs.Ordering.{nat_cmp}
use Rattle.std.specs.Cmp.Lexicographic.{slice_cmp}
use Rattle.path_walk.specs.Seen.{text_seen, lines_seen}
use Rattle.path_walk.specs.Numbering.{Finds, AreNumbered}
use Rattle.path_walk.proofs.numbering.numbered_lines.Given as goal

abbrev pub invariant-loop-line : goal.invariant-loop-line
invariant-loop-line l = record {
  finds : Finds (λ key. get_by (λ k. slice_cmp nat_cmp key.items k.items) l.texts.numbers) (map text_seen l.texts.list.items);
  numbered : AreNumbered (lines_seen (take l.line-index l.lines)) (map text_seen l.texts.list.items) l.all.items;
}
