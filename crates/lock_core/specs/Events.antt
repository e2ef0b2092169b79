-- The machine: which events may come where seats have done what stands in an order, and what each
-- comes to. All that it remembers is the order.
use Rattle.std.specs.Prelude.{◌≡◌, ℕ, ◌<◌, ◌≤◌, true, List, [], ◌∷◌, ◌++◌, length, map, take, Some}
use Rattle.nf_base.specs.declared.packet.Packet.{Packet}
use Rattle.nf_base.specs.declared.state.State.{State}
use Rattle.nf_base.specs.declared.done.Done.{Done}
use Rattle.nf_base.specs.Text.{Function}
use Rattle.nf_base.specs.Doors.{IsServed}
use Rattle.nf_base.specs.Step.{step, quiet, opening}
use Rattle.nf_base.specs.Runs.{Handling, run}
use Rattle.lock_core.specs.declared.call.Way.TheVariants as way
use Rattle.lock_core.specs.declared.call.Entry.{Entry}
use Rattle.lock_core.specs.declared.call.Ordered.{Ordered}
use Rattle.lock_core.specs.declared.call.Event.{Event}
use Rattle.lock_core.specs.declared.call.Event.TheVariants.{Look, Alone}
use Rattle.lock_core.specs.declared.call.Placed.{Placed}
use Rattle.lock_core.specs.Calls.{history, seen_by, put_behind}

-- an entry's packet with its choices
abbrev pub handling_of : Entry → Handling
handling_of e = record { packet = e.packet; choices = e.done.picks }

-- an entry's answer
abbrev pub answer_of : Entry → Done
answer_of e = e.done

-- the undivided run over a history gives its very answers, and comes to a state
abbrev pub ComesTo : Function → List Entry → State → Type 0
ComesTo f entries s =
    run f (opening f) (map handling_of entries)
    ≡ Some (record { state = s; answers = map answer_of entries })

-- Behind a history a packet changes nothing.
pub record IsQuietBehind (f : Function) (entries : List Entry) (packet : Packet) : Type 0 where
  pub state : State
  pub comes : ComesTo f entries state
  pub is_quiet : quiet f state packet [] ≡ Some true

-- A look may come where the history has as many entries as its prefix, of those that the seat has
-- seen or more.
pub record IsValidLook (f : Function) (seats : ℕ) (order : List Ordered) (seat prefix : ℕ)
    (packet : Packet) : Type 0 where
  pub seat_is : seat < seats
  pub port : packet.id.port < length f.handlers
  pub served : IsServed f packet
  pub seen : seen_by seat order ≤ prefix
  pub within : prefix ≤ length (history order)
  pub behind : IsQuietBehind f (take prefix (history order)) packet

-- A packet may be handled alone at any time, where its port has a handler for it or it is skipped.
pub record IsValidAlone (f : Function) (seats seat : ℕ) (packet : Packet) : Type 0 where
  pub seat_is : seat < seats
  pub port : packet.id.port < length f.handlers
  pub served : IsServed f packet

-- the events that may come behind an order
abbrev pub IsValid : Function → ℕ → List Ordered → Event → Type 0
IsValid f seats order (Look seat prefix packet) = IsValidLook f seats order seat prefix packet
IsValid f seats order (Alone seat packet) = IsValidAlone f seats seat packet

-- a look's answer: behind a history, that of a quiet step, which takes no choice
pub record IsLook (f : Function) (entries : List Entry) (packet : Packet) (done : Done)
    : Type 0 where
  pub state : State
  pub comes : ComesTo f entries state
  pub steps : step f state packet [] ≡ Some (record { state = state; done = done })
  pub is_quiet : quiet f state packet [] ≡ Some true

-- the answer of a packet that is handled alone: behind a history, that of a step with legal choices
pub record IsStep (f : Function) (entries : List Entry) (packet : Packet) (done : Done)
    : Type 0 where
  pub state : State
  pub next : State
  pub comes : ComesTo f entries state
  pub steps : step f state packet done.picks ≡ Some (record { state = next; done = done })

-- what an event comes to behind an order
abbrev pub Answers : Function → List Ordered → Event → Placed → Type 0
Answers f order (Look seat prefix packet) placed =
    (placed.place ≡ prefix) × IsLook f (take prefix (history order)) packet placed.done
Answers f order (Alone seat packet) placed =
    (placed.place ≡ length (history order)) × IsStep f (history order) packet placed.done

-- the order behind an event with this answer
abbrev pub with_event : Event → Done → List Ordered → List Ordered
with_event (Look seat prefix packet) done order =
    put_behind prefix (record { seat = seat; way = way.Look; packet = packet; done = done }) order
with_event (Alone seat packet) done order =
    order ++ record { seat = seat; way = way.Alone; packet = packet; done = done } ∷ []

-- an event, and what it came to
pub record Turn : Type 0 where
  pub event : Event
  pub placed : Placed

-- valid events with their answers, one after another, lead from an order to another
abbrev pub Plays : Function → ℕ → List Ordered → List Turn → List Ordered → Type 0
Plays f seats order [] new = new ≡ order
Plays f seats order (t ∷ ts) new =
    IsValid f seats order t.event
    × Answers f order t.event t.placed
    × Plays f seats (with_event t.event t.placed.done order) ts new

-- Events that may come one after another, whatever each comes to.
abbrev pub AreValid : Function → ℕ → List Ordered → List Event → Type 0
AreValid f seats order [] = Unit {0}
AreValid f seats order (e ∷ es) =
    IsValid f seats order e
    × ((placed : Placed)
    → Answers f order e placed
    → AreValid f seats (with_event e placed.done order) es)

-- all events were played, with these answers
pub record PlaysAll (f : Function) (seats : ℕ) (order : List Ordered) (events : List Event)
    (placed : List Placed) (new : List Ordered) : Type 0 where
  pub turns : List Turn
  pub events_are : map (λ (t : Turn). t.event) turns ≡ events
  pub placed_are : map (λ (t : Turn). t.placed) turns ≡ placed
  pub plays : Plays f seats order turns new

-- some events were played, and then one was refused
pub record PlaysFirst (f : Function) (seats : ℕ) (order : List Ordered) (events : List Event)
    (new : List Ordered) : Type 0 where
  pub turns : List Turn
  pub refused : Event
  pub rest : List Event
  pub events_are : map (λ (t : Turn). t.event) turns ++ refused ∷ rest ≡ events
  pub plays : Plays f seats order turns new
