-- A packet that a seat handles alone.
use Rattle.std.specs.Prelude.{◌≡◌, ℕ, List, [], ◌∷◌, ◌++◌, length}
use mathlib.Core.List.{IsPrefix}
use Rattle.nf_base.specs.declared.packet.Packet.{Packet}
use Rattle.nf_base.specs.Text.{Function}
use Rattle.lock_core.specs.declared.call.Entry.{Entry}
use Rattle.lock_core.specs.declared.call.Placed.{Placed}
use Rattle.lock_core.specs.Calls.{count_of}
use Rattle.lock_core.specs.Events.{IsStep}

-- Behind a history that begins with what the seat had seen the packet makes its step, with legal
-- choices, and is the next entry.
pub record IsAlone (f : Function) (seen : List Entry) (seat : ℕ) (packet : Packet)
    (placed : Placed) (new : List Entry) : Type 0 where
  pub before : List Entry
  pub begins : IsPrefix seen before
  pub place : placed.place ≡ length before
  pub steps : IsStep f before packet placed.done
  pub history :
      new ≡ before ++ record {
        seat = seat;
        number = count_of seat before;
        packet = packet;
        done = placed.done;
      } ∷ []
