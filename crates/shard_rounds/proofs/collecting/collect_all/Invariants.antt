use Rattle.std.proofs.Common.{◌≤◌, ◌+◌, length}
use Rattle.std.specs.Vec.{vec_len, vec_capacity}
use Rattle.shard_machine.specs.Machine.{Setup, Machine}
use Rattle.shard_core.specs.Sharded.{StandsFor, IsWhole}
use Rattle.shard_core.specs.Plays.{SameSize}
use Rattle.shard_rounds.specs.Rounds.{Collecting}
use Rattle.shard_rounds.proofs.collecting.collect_all.Given as goal

-- what was collected so far, and room for what is left
abbrev pub invariant-loop-collected : goal.invariant-loop-collected
invariant-loop-collected l = record {
  so_far : (x : Setup) (m : Machine) → StandsFor x m l.fn.shards → Collecting x m l.got.items l.shards;
  whole : IsWhole l.shards;
  size : SameSize l.fn.shards l.shards;
  room : vec_len l.got + length l.shards.queues.items ≤ vec_capacity l.got;
}

abbrev pub decreases-loop-collected : goal.decreases-loop-collected
decreases-loop-collected l = length l.shards.queues.items
