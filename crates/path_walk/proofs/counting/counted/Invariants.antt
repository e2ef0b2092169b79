-- what is counted, and what is left, are the whole
use Rattle.std.proofs.Common.{◌≡◌, ◌≤◌, ◌+◌, ◌-◌, length, vec_len}
use Rattle.path_walk.specs.Walks.{paths_from}
use Rattle.path_walk.specs.Counts.{count_waiting_along}
use Rattle.path_walk.proofs.counting.counted.Given as goal

abbrev pub invariant-loop-point : goal.invariant-loop-point
invariant-loop-point l = record {
  whole : l.count + count_waiting_along l.numbered l.waiting.items ≡ length (paths_from l.numbered l.fn.at);
  room : l.count + vec_len l.waiting ≤ 4096;
}

abbrev pub decreases-loop-point : goal.decreases-loop-point
decreases-loop-point l = 4096 - l.count
