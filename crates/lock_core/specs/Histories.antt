-- What all events come to: one legal order.
use Rattle.std.specs.Prelude.{◌≡◌, ℕ, ◌≤◌, ◌==◌, List, [], length, map, filter, Some, slice_get}
use mathlib.Core.List.{IsPrefix}
use Rattle.nf_base.specs.declared.packet.Packet.{Packet}
use Rattle.nf_base.specs.declared.state.State.{State}
use Rattle.nf_base.specs.declared.done.Done.{Done}
use Rattle.nf_base.specs.Text.{Function}
use Rattle.nf_base.specs.Step.{opening}
use Rattle.nf_base.specs.Runs.{Handling, run}
use Rattle.lock_core.specs.declared.call.Way.{Way}
use Rattle.lock_core.specs.declared.call.Way.TheVariants as way
use Rattle.lock_core.specs.declared.call.Entry.{Entry}
use Rattle.lock_core.specs.declared.call.Call.{Call}
use Rattle.lock_core.specs.declared.call.Ordered.{Ordered}
use Rattle.lock_core.specs.declared.call.Event.{Event}
use Rattle.lock_core.specs.declared.call.Event.TheVariants.{Look, Alone}
use Rattle.lock_core.specs.declared.call.Placed.{Placed}
use Rattle.lock_core.specs.Calls.{history, calls_of, seen_by}
use Rattle.lock_core.specs.Events.{ComesTo, IsValid, Answers, Turn, Plays}

-- a packet of an order with its choices
abbrev pub handling_in : Ordered → Handling
handling_in x = record { packet = x.packet; choices = x.done.picks }

-- its answer
abbrev pub answer_in : Ordered → Done
answer_in x = x.done

-- the undivided run over an order gives its very answers, and comes to a state
abbrev pub Runs : Function → List Ordered → State → Type 0
Runs f order s =
    run f (opening f) (map handling_in order)
    ≡ Some (record { state = s; answers = map answer_in order })

-- whose event it is
abbrev pub seat_in : Event → ℕ
seat_in (Look seat prefix packet) = seat
seat_in (Alone seat packet) = seat

-- how its packet is handled
abbrev pub way_in : Event → Way
way_in (Look seat prefix packet) = way.Look
way_in (Alone seat packet) = way.Alone

-- its packet
abbrev pub packet_in : Event → Packet
packet_in (Look seat prefix packet) = packet
packet_in (Alone seat packet) = packet

-- the call that an event with its answer is
abbrev pub call_in : Turn → Call
call_in t = record {
  way = way_in t.event;
  place = t.placed.place;
  packet = packet_in t.event;
  done = t.placed.done;
}

-- the calls of a seat, as its events came and were answered
abbrev pub made_by : ℕ → List Turn → List Call
made_by seat turns = map call_in (filter (λ (t : Turn). seat_in t.event == seat) turns)

-- the entries of a seat, in order
abbrev pub entries_of : ℕ → List Entry → List Entry
entries_of seat entries = filter (λ (e : Entry). e.seat == seat) entries

-- Each seat's entries are numbered from 0.
abbrev pub AreNumbered : List Entry → Type 0
AreNumbered entries = (seat k : ℕ) (e : Entry) →
    slice_get (entries_of seat entries) k ≡ Some e → e.number ≡ k

-- An order of what seats did: a run of the undivided function with the very answers, which ends where
-- that of the history alone does; in it stand each seat's calls, each once, in the seat's order, and
-- no others, a look behind as many entries as it saw and before the next; and no seat has seen more
-- than there is.
pub record IsOneHistory (f : Function) (turns : List Turn) (order : List Ordered) : Type 0 where
  pub state : State
  pub runs : Runs f order state
  pub comes : ComesTo f (history order) state
  pub calls : (seat : ℕ) → calls_of seat order ≡ made_by seat turns
  pub seen : (seat : ℕ) → seen_by seat order ≤ length (history order)
  pub numbered : AreNumbered (history order)

-- all valid events come to one legal order
abbrev pub EventsAreOneHistory : Type 0
EventsAreOneHistory = (f : Function) (seats : ℕ) (turns : List Turn) (order : List Ordered) →
    Plays f seats [] turns order → IsOneHistory f turns order

-- each event that may come has an answer
abbrev pub ValidEventsAreAnswered : Type 0
ValidEventsAreAnswered =
    (f : Function) (seats : ℕ) (turns : List Turn) (order : List Ordered) (e : Event) →
    Plays f seats [] turns order → IsValid f seats order e →
    (placed : Placed) × Answers f order e placed

-- what a history has once it has for good
abbrev pub HistoriesGrow : Type 0
HistoriesGrow = (f : Function) (seats : ℕ) (order new : List Ordered) (turns : List Turn) →
    Plays f seats order turns new → IsPrefix (history order) (history new)

-- no other seat's calls stand in an order than those below the number of seats
abbrev pub OnlySeatsCall : Type 0
OnlySeatsCall =
    (f : Function) (seats seat : ℕ) (turns : List Turn) (order : List Ordered) →
    Plays f seats [] turns order → seats ≤ seat → calls_of seat order ≡ []
