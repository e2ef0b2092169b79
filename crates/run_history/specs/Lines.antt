-- The lines that a journal may have: its numbers have 32 bits, and a packet has 16 choices at most.
use Rattle.std.specs.Prelude.{ℕ, ◌≤◌, ◌<◌, ◌^◌, List, length}
use Rattle.std.specs.List.{AllByRecursion}
use Rattle.nf_base.specs.declared.packet.PacketId.{PacketId}
use Rattle.nf_base.specs.declared.done.Action.{Action}
use Rattle.nf_base.specs.declared.done.Action.TheVariants.{Skip, Drop, To, Flood}
use Rattle.run_history.specs.Headings.{IsHeading}
use Rattle.run_history.specs.declared.line.JournalLine.{JournalLine}
use Rattle.run_history.specs.declared.line.JournalLine.TheVariants.{Header, Packet}

-- a number of a journal
abbrev pub IsShort : ℕ → Type 0
IsShort n = n < 2 ^ 32

-- a packet may go to any port that is such a number
abbrev pub IsAction : Action → Type 0
IsAction Skip = Unit {0}
IsAction Drop = Unit {0}
IsAction Flood = Unit {0}
IsAction (To port) = IsShort port

-- the indices that a packet was given
pub record AreChoices (picks : List ℕ) : Type 0 where
  pub few : length picks ≤ 16
  pub short : AllByRecursion IsShort picks

-- what a packet came to
pub record IsPacket (id : PacketId) (worker : ℕ) (action : Action) (picks : List ℕ) : Type 0 where
  pub port : IsShort id.port
  pub seq : IsShort id.seq
  pub handled_by : IsShort worker
  pub goes : IsAction action
  pub choices : AreChoices picks

-- a line that a journal may have
abbrev pub IsLine : JournalLine → Type 0
IsLine (Header heading) = IsHeading heading
IsLine (Packet id worker action picks) = IsPacket id worker action picks
