-- What workers that were taken apart come to, each for itself.
use Rattle.std.specs.Prelude.{◌≡◌, ℕ, zero, suc, ◌==◌, List, [], ◌++◌, length, replicate, Some, if◌then◌else◌, slice_get, slice_set}
use Rattle.nf_base.specs.Text.{Function}
use Rattle.shard_machine.specs.declared.event.Event.{Event}
use Rattle.shard_machine.specs.declared.event.Event.TheVariants.{Work}
use Rattle.shard_machine.specs.declared.event.Worked.{Worked}
use Rattle.shard_machine.specs.Machine.{Setup, Machine}
use Rattle.shard_machine.specs.Events.{Plays}
use Rattle.shard_core.specs.Held.{Held, WorksOnce, WorkedTimes}
use Rattle.shard_core.specs.Sharded.{Sharded, StandsFor}

-- the same workers, in order, each after so many calls of its work and no other call
pub record AreWorked (f : Function) (counts : ℕ → ℕ) (before after : List Held) : Type 0 where
  pub count : length after ≡ length before
  pub each : (w : ℕ) (old new : Held) → slice_get before w ≡ Some old →
      slice_get after w ≡ Some new → WorkedTimes f old (counts w) new

-- workers that were not called are as they were, and a call more of one of them is counted for it
pub record WorksAreCounted : Type 0 where
  pub none : (f : Function) (workers : List Held) → AreWorked f (λ w. 0) workers workers
  pub one_more :
      (f : Function) (counts : ℕ → ℕ) (before after : List Held) (w : ℕ) (came : Worked)
      (old new : Held) →
      AreWorked f counts before after → slice_get after w ≡ Some old → WorksOnce f came old new →
      AreWorked f (λ v. if w == v then suc (counts v) else counts v) before (slice_set after w new)

-- the works of so many workers, from one of them on: one worker's after another's
abbrev pub works_from : (ℕ → ℕ) → ℕ → ℕ → List Event
works_from counts w zero = []
works_from counts w (suc n) = replicate (counts w) (Work w) ++ works_from counts (suc w) n

-- these works were played from a machine on
pub record WorkedBack (x : Setup) (m : Machine) (counts : ℕ → ℕ) (new : Sharded) : Type 0 where
  pub machine : Machine
  pub plays : Plays x (works_from counts 0 (length new.workers)) m machine []
  pub stands : StandsFor x machine new
