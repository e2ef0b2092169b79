-- The packets of a queue, and what is asked of the packets of a run.
use Rattle.std.specs.Prelude.{◌≡◌, ◌≤◌, ℕ, false, ◌==◌, List, [], ◌∷◌, Option, Some, None, if◌then◌else◌}
use Rattle.nf_base.specs.declared.packet.Packet.{Packet}
use Rattle.nf_base.specs.declared.packet.Fields.{Fields}
use Rattle.nf_base.specs.declared.state.State.{State}
use Rattle.nf_base.specs.declared.done.Done.{Done}
use Rattle.nf_base.specs.Text.{Function}
use Rattle.nf_base.specs.Record.{answers_full}
use Rattle.nf_base.specs.Locations.{Numbers, locations, all_numbers}
use Rattle.nf_base.specs.Operations.{Stops}
use Rattle.nf_base.specs.Step.{StepResult, step, step_by, recorded, recorded_by}
use Rattle.nf_base.specs.Runs.{Handling, Report, Meet}
use Rattle.shard_laws.specs.Homes.{Homes, AllTold, entries_made, MadeOwn, AllAt, AllOwn}

-- the time of the last handled packet, after one with these fields
abbrev pub time_of : ℕ → ℕ → Option Fields → ℕ
time_of before time None = before
time_of before time (Some fields) = time

-- the time of the last handled packet, after one more packet
abbrev pub time_after : ℕ → Packet → ℕ
time_after before packet = time_of before packet.time packet.fields

-- the time of the last handled packet after a run, from a time on
abbrev pub last_time : ℕ → List Handling → ℕ
last_time time [] = time
last_time time (h ∷ hs) = last_time (time_after time h.packet) hs

-- the times of handled packets never fall, from a time on
abbrev pub NeverFall : ℕ → List Handling → Type 0
NeverFall time [] = Unit {0}
NeverFall time (h ∷ hs) =
    (time ≤ time_after time h.packet) × NeverFall (time_after time h.packet) hs

-- the packets of one queue, in order
abbrev pub of_queue : (Packet → ℕ) → ℕ → List Handling → List Handling
of_queue queue w [] = []
of_queue queue w (h ∷ hs) =
    if queue h.packet == w then h ∷ of_queue queue w hs else of_queue queue w hs

-- their answers, of those of all packets
abbrev pub answers_of : (Packet → ℕ) → ℕ → List Handling → List Done → List Done
answers_of queue w [] answers = []
answers_of queue w (h ∷ hs) [] = []
answers_of queue w (h ∷ hs) (answer ∷ answers) =
    if queue h.packet == w then answer ∷ answers_of queue w hs answers
    else answers_of queue w hs answers

-- each packet's choices are indices that its queue owns
abbrev pub TakeOwn : (ℕ → ℕ → ℕ) → (Packet → ℕ) → List Handling → Type 0
TakeOwn owner queue [] = Unit {0}
TakeOwn owner queue (h ∷ hs) = AllOwn owner (queue h.packet) h.choices × TakeOwn owner queue hs

-- what holds of each packet of a run at the state before it, up to and with the first one that has
-- no step
abbrev pub Throughout : (State → Handling → Type 0) → Function → State → List Handling → Type 0
Throughout P f s [] = Unit {0}
Throughout P f s (h ∷ hs) =
    P s h
    × ((next : StepResult) → step f s h.packet h.choices ≡ Some next →
    Throughout P f next.state hs)

-- no `new` of a packet answers full at a state
abbrev pub MeetsNoFull : Function → State → Handling → Type 0
MeetsNoFull f s h = answers_full (recorded f s h.packet h.choices) ≡ false

-- each packet touches what is at home at its bucket alone, and tells what it makes and stores to, up
-- to and with the first one that has no step
abbrev pub StayHome : Homes → (Packet → ℕ) → Function → State → Numbers → List Handling → Type 0
StayHome h bucket f s ns [] = Unit {0}
StayHome h bucket f s ns (one ∷ hs) =
    (AllAt h (bucket one.packet) (locations f.chains ns (recorded f s one.packet one.choices))
    × AllTold h ns (recorded f s one.packet one.choices))
    × ((next : StepResult) → step f s one.packet one.choices ≡ Some next →
    StayHome h bucket f next.state (all_numbers ns (recorded f s one.packet one.choices)) hs)

-- the queue of a packet's bucket
abbrev pub queue_by : Homes → (Packet → ℕ) → Packet → ℕ
queue_by h bucket packet = h.at (bucket packet)

-- each packet of a run makes entries at indices that its queue owns, up to and with the first one
-- that has no step
abbrev pub MakeOwn :
    (ℕ → ℕ → ℕ) → (Packet → ℕ) → Stops → Function → State → List Handling → Type 0
MakeOwn owner queue stops f s [] = Unit {0}
MakeOwn owner queue stops f s (h ∷ hs) =
    MadeOwn owner (queue h.packet) (entries_made (recorded_by stops f s h.packet h.choices))
    × ((next : StepResult) → step_by stops f s h.packet h.choices ≡ Some next →
    MakeOwn owner queue stops f next.state hs)

-- any two packets of a run that meet have one queue
abbrev pub MeetAtOneQueue : (Packet → ℕ) → Function → List Handling → Type 0
MeetAtOneQueue queue f hs = (a b : Report) → Meet f hs a b → queue a.packet ≡ queue b.packet
