-- what is listed, and what is left, are the whole
use Rattle.std.proofs.Common.{◌≡◌, ◌≤◌, ◌+◌, ◌-◌, ◌++◌, [], map, length, vec_len}
use Rattle.path_walk.specs.Seen.{text_seen}
use Rattle.path_walk.specs.Lines.{trees, tree_at}
use Rattle.path_walk.specs.Known.{nothing_known}
use Rattle.path_walk.specs.Walks.{leaves, paths_waiting}
use Rattle.path_walk.proofs.walk.listed.Given as goal

abbrev pub invariant-loop-walk : goal.invariant-loop-walk
invariant-loop-walk l = record {
  whole :
      l.all.items ++ paths_waiting (map text_seen l.numbered.texts.items) (trees [] l.numbered.lines.items) l.waiting.items
      ≡ leaves (map text_seen l.numbered.texts.items) (tree_at l.numbered.lines.items l.fn.at) (nothing_known (length l.numbered.texts.items));
  room : vec_len l.all + vec_len l.waiting ≤ 4096;
}

abbrev pub decreases-loop-walk : goal.decreases-loop-walk
decreases-loop-walk l = 4096 - vec_len l.all
