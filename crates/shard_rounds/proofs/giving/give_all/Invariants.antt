use Rattle.std.proofs.Common.{◌≡◌, ◌+◌, ℕ, length, take}
use Rattle.shard_machine.specs.Machine.{Setup, Machine}
use Rattle.shard_core.specs.Sharded.{StandsFor, HasRoom}
use Rattle.shard_core.specs.Plays.{SameSize}
use Rattle.shard_rounds.specs.Rounds.{all_dispatched}
use Rattle.shard_rounds.proofs.giving.give_all.Given as goal

-- the first packets were dispatched, and there is room for the others
abbrev pub invariant-loop-i : goal.invariant-loop-i
invariant-loop-i l = record {
  stands : (x : Setup) (m : Machine) → StandsFor x m l.fn.shards → StandsFor x (all_dispatched x (take l.i l.batch) m) l.shards;
  left : length l.shards.queues.items ≡ length l.fn.shards.queues.items + l.i;
  size : SameSize l.fn.shards l.shards;
  room : (n : ℕ) → n + l.i ≡ length l.batch → HasRoom n l.shards;
}
