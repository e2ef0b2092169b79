use Rattle.std.proofs.Common.{◌≤◌, ◌+◌, length, take}
use Rattle.std.specs.Vec.{vec_len, vec_capacity}
use Rattle.shard_machine.specs.Machine.{Setup, Machine}
use Rattle.shard_core.specs.Sharded.{StandsFor}
use Rattle.shard_core.specs.Plays.{Played, SameSize}
use Rattle.shard_core.proofs.shards.Shards.play_into.Given as goal

-- the first events were played, and there is room for what the others collect
abbrev pub invariant-loop-i : goal.invariant-loop-i
invariant-loop-i l = record {
  played : (x : Setup) (m : Machine) → StandsFor x m l.fn.self → Played x m (take l.i l.events) l.got.items l.self;
  same : SameSize l.fn.self l.self;
  room : vec_len l.got + length l.events ≤ vec_capacity l.got + l.i;
}
