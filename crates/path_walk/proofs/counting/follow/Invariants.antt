-- as many paths are left
use Rattle.std.proofs.Common.{◌≡◌, ◌<◌, vec_len}
use Rattle.path_walk.specs.Counts.{count_left_along}
use Rattle.path_walk.proofs.counting.follow.Given as goal

abbrev pub invariant-steps : goal.invariant-steps
invariant-steps l = record {
  left : count_left_along l.numbered l.point l.waiting.items ≡ count_left_along l.numbered l.fn.first l.fn.waiting.items;
  room : vec_len l.waiting < l.room;
}

abbrev pub decreases-steps : goal.decreases-steps
decreases-steps l = l.point.at
