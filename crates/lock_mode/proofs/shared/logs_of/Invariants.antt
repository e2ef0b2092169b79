use Rattle.std.proofs.Common.{◌≡◌, ◌+◌, ◌≤◌, ◌++◌, length}
use Rattle.lock_log.specs.Turns.{calls_of_each}
use Rattle.lock_mode.specs.Merging.{calls_each}
use Rattle.std.specs.Vec.{vec_len, vec_capacity}
use Rattle.lock_mode.proofs.shared.logs_of.Given as goal

-- the calls of the first seats were taken, and the others are left
abbrev pub invariant-loop-k : goal.invariant-loop-k
invariant-loop-k g l = record {
  all : calls_of_each l.logs.items ++ calls_each l.rest ≡ calls_each l.fn.seats.items;
  left : l._k + length l.rest ≡ length l.fn.seats.items;
  room : vec_len l.logs + length l.rest ≤ vec_capacity l.logs;
}
