use Rattle.std.proofs.Common.{◌≡◌, length, ℕ}
use Rattle.shard_core.specs.Sharded.{AreSameButRoom, HaveRoom}
use Rattle.shard_core.proofs.shards.reserve_each.Given as goal

-- those so far have room, and nothing else has changed
abbrev pub invariant-loop-w : goal.invariant-loop-w
invariant-loop-w l = record {
  same : AreSameButRoom l.fn.workers l.workers;
  room : HaveRoom l.n l.w l.workers;
  grows : (m : ℕ) → HaveRoom m (length l.fn.workers) l.fn.workers → HaveRoom m (length l.workers) l.workers;
  count : length l.workers ≡ length l.fn.workers;
}
