-- Two seats at a learning bridge, each with a packet for the other's address, as worked rows.
use Rattle.std.specs.Prelude.{◌≡◌, ℕ, false, List, [], ◌∷◌, Some}
use Rattle.nf_base.specs.declared.packet.Packet.{Packet}
use Rattle.nf_base.specs.declared.done.Action.{Action}
use Rattle.nf_base.specs.declared.done.Action.TheVariants.{To, Flood}
use Rattle.nf_base.specs.declared.done.Done.{Done}
use Rattle.nf_base.specs.Step.{no_edits, quiet, opening}
use Rattle.nf_laws.specs.Bridge.{bridge, between}
use Rattle.lock_core.specs.declared.call.Way.{Way}
use Rattle.lock_core.specs.declared.call.Way.TheVariants.{Look, Alone}
use Rattle.lock_core.specs.declared.call.Entry.{Entry}
use Rattle.lock_core.specs.declared.call.Call.{Call}
use Rattle.lock_core.specs.declared.call.Ordered.{Ordered}
use Rattle.lock_core.specs.Calls.{history, calls_of, seen_by, put_behind}
use Rattle.lock_core.specs.Events.{IsLook, IsStep}

-- the first packet of port 0, from address 10 to 11 at 5 nanoseconds
abbrev pub there : Packet
there = record { id = record { port = 0; seq = 0 }; time = 5; fields = between 10 11 }

-- the first packet of port 1, from address 11 to 10 at 9 nanoseconds
abbrev pub back : Packet
back = record { id = record { port = 1; seq = 0 }; time = 9; fields = between 11 10 }

-- an answer with these choices
abbrev pub answered : Action → List ℕ → Done
answered action picks = record { action = action; edits = no_edits; picks = picks }

-- the entry of a seat with its packet
abbrev pub entry : ℕ → ℕ → Packet → Done → Entry
entry seat number packet done = record {
  seat = seat;
  number = number;
  packet = packet;
  done = done;
}

-- Whoever comes first floods, and the other goes to the port where the first is.
abbrev pub BothOrdersAreRight : Type 0
BothOrdersAreRight =
    IsStep bridge [] back (answered Flood (0 ∷ []))
    × IsStep bridge (entry 1 0 back (answered Flood (0 ∷ [])) ∷ []) there
    (answered (To 1) (1 ∷ []))
    × IsStep bridge [] there (answered Flood (0 ∷ []))
    × IsStep bridge (entry 0 0 there (answered Flood (0 ∷ [])) ∷ []) back
    (answered (To 0) (1 ∷ []))

-- a seat that handled a packet alone may look at the same packet: it floods, and makes no entry
abbrev pub ASeatSeesItsOwn : Type 0
ASeatSeesItsOwn =
    IsLook bridge (entry 0 0 there (answered Flood (0 ∷ [])) ∷ []) there (answered Flood [])

-- on the opening tables it writes
abbrev pub OpeningTablesAreWritten : Type 0
OpeningTablesAreWritten = quiet bridge (opening bridge) there (0 ∷ []) ≡ Some false

-- a packet of an order
abbrev pub ordered : ℕ → Way → Packet → Ordered
ordered seat way packet = record {
  seat = seat;
  way = way;
  packet = packet;
  done = answered Flood [];
}

-- a call of a seat
abbrev pub called : Way → ℕ → Packet → Call
called way place packet = record {
  way = way;
  place = place;
  packet = packet;
  done = answered Flood [];
}

-- three packets that are handled alone, with a look behind the first
abbrev pub sample : List Ordered
sample =
    ordered 0 Alone there ∷ ordered 1 Look back ∷ ordered 1 Alone back ∷ ordered 0 Alone there ∷ []

-- what was done alone is the history, where each seat's entries are numbered from 0
abbrev pub OnlyAloneIsHistory : Type 0
OnlyAloneIsHistory =
    history sample
    ≡ entry 0 0 there (answered Flood [])
    ∷ entry 1 0 back (answered Flood [])
    ∷ entry 0 1 there (answered Flood [])
    ∷ []

-- a look is at as many entries as stand before it, and an entry at its place
abbrev pub ALookIsAtItsPrefix : Type 0
ALookIsAtItsPrefix =
    (calls_of 0 sample ≡ called Alone 0 there ∷ called Alone 2 there ∷ [])
    × (calls_of 1 sample ≡ called Look 1 back ∷ called Alone 1 back ∷ [])
    × (calls_of 2 sample ≡ [])

-- a seat has seen its own entry, or what it looked at
abbrev pub ASeatHasSeenItsLast : Type 0
ASeatHasSeenItsLast =
    (seen_by 0 sample ≡ 3)
    × (seen_by 1 sample ≡ 2)
    × (seen_by 2 sample ≡ 0)
    × (seen_by 1 (ordered 0 Alone there ∷ ordered 1 Look back ∷ []) ≡ 1)

-- a look is put behind the other looks there, and before the next entry
abbrev pub ALookGoesBehindOthers : Type 0
ALookGoesBehindOthers =
    put_behind 1 (ordered 2 Look there) sample
    ≡ ordered 0 Alone there
    ∷ ordered 1 Look back
    ∷ ordered 2 Look there
    ∷ ordered 1 Alone back
    ∷ ordered 0 Alone there
    ∷ []
