-- What a log is seen as.
use Rattle.std.specs.Prelude.{◌≡◌, ℕ, ◌++◌, List, [], map}
use Rattle.nf_base.specs.Text.{Function}
use Rattle.nf_base.specs.Functions.{function_of}
use Rattle.lock_core.specs.declared.call.Ordered.{Ordered}
use Rattle.lock_core.specs.declared.call.Event.{Event}
use Rattle.lock_core.specs.declared.call.Placed.{Placed}
use Rattle.lock_core.specs.declared.log.Log.{Log}
use Rattle.lock_core.specs.Events.{Turn, Plays}
use Rattle.lock_core.specs.Histories.{IsOneHistory}

-- a function, how many seats it has, and the order of what they did
pub record LogState : Type 0 where
  pub function : Function
  pub seats : ℕ
  pub order : List Ordered

-- a log's
abbrev pub state_in : Log → LogState
state_in log = record {
  function = function_of log.func;
  seats = log.seats;
  order = log.order.items;
}

-- a log with another order
abbrev pub with_order : List Ordered → LogState → LogState
with_order order log = record { function = log.function; seats = log.seats; order = order }

-- Whatever events an order came from, with these it is one legal order of all of them.
abbrev pub GoesOn : LogState → List Event → List Placed → LogState → Type 0
GoesOn old events placed new =
    (before : List Turn) → Plays old.function old.seats [] before old.order →
    (all : List Turn)
    × ((map (λ (t : Turn). t.event) all ≡ map (λ (t : Turn). t.event) before ++ events)
    × (map (λ (t : Turn). t.placed) all ≡ map (λ (t : Turn). t.placed) before ++ placed)
    × Plays new.function new.seats [] all new.order
    × IsOneHistory new.function all new.order)
