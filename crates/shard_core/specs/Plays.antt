-- What playing events comes to.
use Rattle.std.specs.Prelude.{◌≡◌, ◌<◌, ℕ, List, length, map, take, All}
use Rattle.nf_base.specs.declared.func.Func.{Func}
use Rattle.nf_base.specs.Doors.{IsServed}
use Rattle.nf_base.specs.Functions.{function_of}
use Rattle.shard_machine.specs.declared.event.Event.{Event}
use Rattle.shard_machine.specs.declared.event.Event.TheVariants.{Dispatch, Work, Collect}
use Rattle.shard_machine.specs.Machine.{Setup, Machine}
use Rattle.shard_machine.specs.Events.{Plays}
use Rattle.shard_core.specs.declared.collected.Collected.{Collected}
use Rattle.shard_core.specs.Sharded.{Sharded, StandsFor, answer_of}

-- an event of a function's ports and handlers and of so many workers
abbrev pub IsValid : Func → ℕ → Event → Type 0
IsValid func workers (Dispatch packet) =
    (packet.id.port < length func.handlers) × IsServed (function_of func) packet
IsValid func workers (Work w) = w < workers
IsValid func workers Collect = Unit {0}

-- the function and the number of queues are the same, and as many workers are there
pub record SameSize (old new : Sharded) : Type 0 where
  pub func : new.func ≡ old.func
  pub count : new.count ≡ old.count
  pub long : length new.workers ≡ length old.workers

-- events were played from a machine on, and this was collected, each packet with its queue
pub record Played (x : Setup) (m : Machine) (events : List Event) (got : List Collected)
    (new : Sharded) : Type 0 where
  pub machine : Machine
  pub plays : Plays x events m machine (map answer_of got)
  pub queues : All (λ (c : Collected). c.queue ≡ x.queue c.packet) got
  pub stands : StandsFor x machine new

-- those before one of them were played
pub record PlayedFront (x : Setup) (m : Machine) (events : List Event) (new : Sharded)
    : Type 0 where
  pub count : ℕ
  pub before : count < length events
  pub got : List Collected
  pub played : Played x m (take count events) got new
