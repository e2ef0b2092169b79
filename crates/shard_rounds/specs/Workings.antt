-- What the workers' part of a round comes to.
use Rattle.std.specs.Prelude.{◌≡◌, ◌≤◌, ◌<◌, ℕ, Bool, true, false, List, [], ◌∷◌, length, All, Some, None, slice_get}
use Rattle.nf_base.specs.declared.func.Func.{Func}
use Rattle.nf_base.specs.declared.packet.Packet.{Packet}
use Rattle.nf_base.specs.Doors.{IsServed}
use Rattle.nf_base.specs.Functions.{function_of}
use Rattle.nf_base.specs.Text.{Function}
use Rattle.shard_machine.specs.Machine.{Setup, Machine}
use Rattle.shard_machine.specs.Events.{Plays}
use Rattle.shard_core.specs.Apart.{works_from}
use Rattle.shard_core.specs.Held.{Held, WorkedTimes}
use Rattle.shard_core.specs.Sharded.{Sharded, StandsFor}

-- a worker's tables and packets are of a function
pub record CanWork (func : Func) (held : Held) : Type 0 where
  pub decls : held.tables.decls ≡ func.chains
  pub ports : All (λ (p : Packet). p.id.port < length func.handlers) held.waiting
  pub served : All (IsServed (function_of func)) held.waiting

-- those of all workers are, 16 at most
pub record AreWorkers (func : Func) (workers : List Held) : Type 0 where
  pub most : length workers ≤ 16
  pub each : (w : ℕ) (held : Held) → slice_get workers w ≡ Some held → CanWork func held

-- a worker has stopped, or nothing waits for it
abbrev pub IsDone : Held → Type 0
IsDone held = held.stopped ≡ None → held.waiting ≡ []

-- a worker worked as often as packets waited for it, and is done
pub record WorkedThrough (f : Function) (old new : Held) : Type 0 where
  pub times : WorkedTimes f old (length old.waiting) new
  pub done : IsDone new

-- each worker did
pub record AllWorkedThrough (f : Function) (before after : List Held) : Type 0 where
  pub count : length after ≡ length before
  pub each : (w : ℕ) (old new : Held) → slice_get before w ≡ Some old →
      slice_get after w ≡ Some new → WorkedThrough f old new

-- a worker goes on behind the packet that it worked, or has stopped at it
abbrev pub WentOn : Bool → Held → Held → Type 0
WentOn true old new = (p : Packet) × (old.waiting ≡ p ∷ new.waiting)
WentOn false old new =
    (chain : ℕ) × (new.stopped ≡ Some chain) × (new.waiting ≡ old.waiting)

-- each worker of a machine has stopped, or nothing waits for it
abbrev pub AreDone : Setup → Machine → Type 0
AreDone x m =
    (w : ℕ) → w < x.workers → (m.worker w).stopped ≡ None → (m.worker w).waiting ≡ []

-- from a machine on each worker worked as often as packets waited for it, and is done
pub record WorkedAll (x : Setup) (m : Machine) (new : Sharded) : Type 0 where
  pub machine : Machine
  pub plays : Plays x (works_from (λ w. length (m.worker w).waiting) 0 x.workers) m machine []
  pub done : AreDone x machine
  pub stands : StandsFor x machine new
