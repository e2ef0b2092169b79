-- What a worker's queue handler has, and what one packet changes of it.
use Rattle.std.specs.Prelude.{◌≡◌, Bool, true, false, [], ◌∷◌, ◌++◌, length, Option, Some, None, slice_get}
use Rattle.nf_base.specs.declared.func.Func.{Func}
use Rattle.nf_base.specs.declared.packet.Packet.{Packet}
use Rattle.nf_base.specs.declared.done.Done.{Done}
use Rattle.nf_base.specs.Functions.{function_of}
use Rattle.nf_base.specs.Shares.{share_stops, AreOwn}
use Rattle.nf_base.specs.Step.{step_by}
use Rattle.nf_engine.specs.Handlings.{StopsAt}
use Rattle.vig_tables.specs.TablesState.{TablesState}
use Rattle.ring_line.specs.declared.halt.Halt.{Halt}
use Rattle.ring_line.specs.Packs.{Packed}
use Rattle.ring_line.specs.Handled.{CanServe}

-- a function, tables of a share of it, and where the share ended
pub record HandlerState : Type 0 where
  pub func : Func
  pub tables : TablesState
  pub halt : Option Halt

-- the first packet without an answer gets one
pub record Answers (old : HandlerState) (before : Packed) (new : HandlerState) (after : Packed)
    : Type 0 where
  pub packet : Packet
  pub done : Done
  pub next : slice_get before.packets (length before.answers) ≡ Some packet
  pub pack : after ≡ record before { answers = before.answers ++ done ∷ [] }
  pub running : new.halt ≡ None
  pub step : CanServe old.func packet →
      AreOwn old.tables.share done.picks
      × (step_by (share_stops old.tables.share) (function_of old.func) old.tables.state packet
      done.picks
      ≡ Some (record { state = new.tables.state; done = done }))

-- the share ends at it
pub record Ends (old : HandlerState) (before : Packed) (new : HandlerState) (after : Packed) :
    Type 0 where
  pub halt : Halt
  pub next : slice_get before.packets (length before.answers) ≡ Some halt.packet
  pub pack : after ≡ record before { halt = Some halt }
  pub ended : new.halt ≡ Some halt
  pub stops : CanServe old.func halt.packet →
      StopsAt old.tables.share (function_of old.func) old.tables.state halt.packet halt.chain

-- one of both, by whether the share goes on
abbrev pub WentOn : Bool → HandlerState → Packed → HandlerState → Packed → Type 0
WentOn true old before new after = Answers old before new after
WentOn false old before new after = Ends old before new after
