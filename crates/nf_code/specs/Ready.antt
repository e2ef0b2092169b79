-- A function made ready.
use Rattle.std.specs.Prelude.{◌≡◌, ℕ, ◌<◌, List, length, Option, Some, None}
use Rattle.std.specs.List.{AllZip}
use Rattle.nf_base.specs.Text.{Block, End, FallsOff, PortBlocks}
use Rattle.nf_base.specs.View.{block_of}
use Rattle.nf_base.specs.Functions.{function_of}
use Rattle.nf_base.specs.Doors.{handler_at}
use Rattle.nf_base.specs.declared.func.Func.{Func}
use Rattle.nf_base.specs.declared.handler.Handler.{Handler}
use Rattle.nf_base.specs.declared.packet.Door.{Door}
use Rattle.nf_code.specs.declared.code.Op.{Op}
use Rattle.nf_code.specs.declared.ready.Starts.{Starts}
use Rattle.nf_code.specs.Alike.{Alike}
use Rattle.nf_code.specs.Code.{block_at}
use Rattle.nf_code.specs.Followed.{followed}

-- a handler falls off its end at a place
pub record Falls (code : List Op) (at : ℕ) : Type 0 where
  pub within : at < length code
  pub falls : block_at code at ≡ End FallsOff

-- a place stands for a block with nothing behind it
pub record Stands (code : List Op) (block : Block) (at : ℕ) : Type 0 where
  pub within : at < length code
  pub stands : block_at code at ≡ followed block (End FallsOff)

-- the same, where there is a block; where there is none, there is no place
abbrev pub StandsIfAny : List Op → Option Block → Option ℕ → Type 0
StandsIfAny code None None = Unit {0}
StandsIfAny code None (Some at) = ⊥
StandsIfAny code (Some block) None = ⊥
StandsIfAny code (Some block) (Some at) = Stands code block at

-- the places for the handlers of a port
pub record Begin (code : List Op) (blocks : PortBlocks) (starts : Starts) : Type 0 where
  pub four : Stands code blocks.four starts.four
  pub six : StandsIfAny code blocks.six starts.six

-- the places for the handlers of each port
abbrev pub AllBegin : List Op → List PortBlocks → List Starts → Type 0
AllBegin code handlers starts = AllZip (Begin code) handlers starts

-- a place for the handler of a door: from each context it goes as the handler does
pub record Begins (f : Func) (door : Door) (code : List Op) (at : ℕ) : Type 0 where
  pub handler : Handler
  pub is : handler_at (function_of f) door ≡ Some (block_of handler.block)
  pub within : at < length code
  pub stands : block_at code at ≡ followed (block_of handler.block) (End FallsOff)
  pub alike : Alike (block_at code at) (block_of handler.block)
