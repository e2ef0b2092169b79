-- the same paths are left
use Rattle.std.proofs.Common.{◌≡◌, ◌<◌, [], map, vec_len}
use Rattle.path_walk.specs.Seen.{text_seen}
use Rattle.path_walk.specs.Lines.{trees}
use Rattle.path_walk.specs.Walks.{paths_left}
use Rattle.path_walk.proofs.walk.follow.Given as goal

abbrev pub invariant-steps : goal.invariant-steps
invariant-steps l = record {
  left :
      paths_left (map text_seen l.numbered.texts.items) (trees [] l.numbered.lines.items) l.walk l.waiting.items
      ≡ paths_left (map text_seen l.numbered.texts.items) (trees [] l.numbered.lines.items) l.fn.first l.fn.waiting.items;
  room : vec_len l.waiting < l.room;
}

abbrev pub decreases-steps : goal.decreases-steps
decreases-steps l = l.walk.at
