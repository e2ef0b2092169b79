-- Runs, their reports and their numbers.
use Rattle.std.specs.Prelude.{◌≡◌, ◌↔◌, true, List, [], ◌∷◌, ◌++◌, length, map, All, Contains, Option, Some, None}
use Rattle.std.specs.Option.{option_and_then}
use Rattle.nf_base.specs.Doors.{blocks}
use Rattle.nf_base.specs.declared.packet.Packet.{Packet}
use Rattle.nf_base.specs.declared.state.State.{State}
use Rattle.nf_base.specs.declared.done.Done.{Done}
use Rattle.nf_base.specs.Text.{Function}
use Rattle.nf_base.specs.FitsOnce.{AllFit}
use Rattle.nf_base.specs.Operations.{Stops}
use Rattle.nf_base.specs.Events.{Event}
use Rattle.nf_base.specs.Objects.{is_written}
use Rattle.nf_base.specs.Step.{StepResult, step, recorded, opening}
use Rattle.nf_base.specs.Locations.{Location, object_of, Numbers, no_numbers, all_numbers}
use Rattle.nf_base.specs.Runs.{Handling, RunResult, run_by, run, Report, report_of, reports, numbers_of, Meet}
use Rattle.nf_laws.specs.Steps.{HasHandler}
use Rattle.nf_laws.specs.States.{IsSound, HasShape}

-- answers in front of those of a run
abbrev pub with_answers : List Done → Option RunResult → Option RunResult
with_answers dones None = None
with_answers dones (Some r) = Some (record { state = r.state; answers = dones ++ r.answers })

-- a run over two lists is the run over the second one from where the first one ends
abbrev pub RunsPart : Type 0
RunsPart = (stops : Stops) (f : Function) (s : State) (first second : List Handling) →
    run_by stops f s (first ++ second)
    ≡ option_and_then
    (λ (r : RunResult). with_answers r.answers (run_by stops f r.state second))
    (run_by stops f s first)

-- a run answers each packet
abbrev pub RunsAnswerEach : Type 0
RunsAnswerEach = (stops : Stops) (f : Function) (s : State) (hs : List Handling) (r : RunResult) →
    run_by stops f s hs ≡ Some r → length r.answers ≡ length hs

-- the packets of handlings
abbrev pub packets_of : List Handling → List Packet
packets_of hs = map (λ (h : Handling). h.packet) hs

-- from any state some choices give packets a run, where each is skipped or comes in at a port of
-- the function
abbrev pub RunsGoOn : Type 0
RunsGoOn = (f : Function) (s : State) (packets : List Packet) → All (HasHandler f) packets →
    (hs : List Handling) × ((r : RunResult) × (packets_of hs ≡ packets) × (run f s hs ≡ Some r))

-- from any sound state a run comes to a sound one
abbrev pub RunsKeepSoundness : Type 0
RunsKeepSoundness =
    (stops : Stops) (f : Function) (s : State) (hs : List Handling) (r : RunResult) →
    IsSound f s → run_by stops f s hs ≡ Some r → IsSound f r.state

-- the same of the shape, where each `new` gives as many labels as its chain has
abbrev pub RunsKeepTheShape : Type 0
RunsKeepTheShape = (stops : Stops) (f : Function) (s : State) (hs : List Handling) (r : RunResult) →
    AllFit f.chains (blocks f) → HasShape f s → run_by stops f s hs ≡ Some r → HasShape f r.state

-- reports part where a run does
abbrev pub ReportsPart : Type 0
ReportsPart =
    (f : Function) (s : State) (ns : Numbers) (first second : List Handling) (r : RunResult) →
    run f s first ≡ Some r →
    reports f s ns (first ++ second)
    ≡ reports f s ns first ++ reports f r.state (numbers_of f s ns first) second

-- numbers part likewise
abbrev pub NumbersPart : Type 0
NumbersPart =
    (f : Function) (s : State) (ns : Numbers) (first second : List Handling) (r : RunResult) →
    run f s first ≡ Some r →
    numbers_of f s ns (first ++ second) ≡ numbers_of f r.state (numbers_of f s ns first) second

-- behind a packet with no step there is no report
abbrev pub ReportsEnd : Type 0
ReportsEnd = (f : Function) (s : State) (ns : Numbers) (first second : List Handling) →
    run f s first ≡ None → reports f s ns (first ++ second) ≡ reports f s ns first

-- a run has a report for each packet
abbrev pub ReportsAreOneAPacket : Type 0
ReportsAreOneAPacket =
    (f : Function) (s : State) (ns : Numbers) (hs : List Handling) (r : RunResult) →
    run f s hs ≡ Some r → map (λ (a : Report). a.packet) (reports f s ns hs) ≡ packets_of hs

-- where a run stops there is a report of the packet with no step, and none behind it
abbrev pub TheLastReportHasNoStep : Type 0
TheLastReportHasNoStep =
    (f : Function) (s : State) (ns : Numbers) (first second : List Handling) (h : Handling)
    (r : RunResult) →
    run f s first ≡ Some r → step f r.state h.packet h.choices ≡ None →
    reports f s ns (first ++ h ∷ second)
    ≡ reports f s ns first ++ report_of f r.state (numbers_of f s ns first) h ∷ []

-- what a packet did, and what follows where it has a step
abbrev pub if_going : Option StepResult → (State → List Event) → List Event
if_going None rest = []
if_going (Some next) rest = rest next.state

-- the records of a run's packets, one after another
abbrev pub run_record : Function → State → List Handling → List Event
run_record f s [] = []
run_record f s (h ∷ hs) =
    recorded f s h.packet h.choices
    ++ if_going (step f s h.packet h.choices) (λ next. run_record f next hs)

-- entries are numbered along a run as along its record
abbrev pub NumbersAreOfTheRecord : Type 0
NumbersAreOfTheRecord = (f : Function) (s : State) (ns : Numbers) (hs : List Handling) →
    numbers_of f s ns hs ≡ all_numbers ns (run_record f s hs)

-- the report of one of a run's packets, at the state and the numbers that the run came to before it
pub record IsReported (f : Function) (s : State) (ns : Numbers) (hs : List Handling)
    (a : Report) : Type 0 where
  pub earlier : List Handling
  pub handling : Handling
  pub later : List Handling
  pub whole : hs ≡ earlier ++ handling ∷ later
  pub before : RunResult
  pub ran : run f s earlier ≡ Some before
  pub is : a ≡ report_of f before.state (numbers_of f s ns earlier) handling

-- exactly these are the reports of a run
abbrev pub ReportsAreOfPackets : Type 0
ReportsAreOfPackets = (f : Function) (s : State) (ns : Numbers) (hs : List Handling) (a : Report) →
    Contains (reports f s ns hs) a ↔ IsReported f s ns hs a

-- two packets of a run that touch one location of an object that the function writes
pub record Share (f : Function) (hs : List Handling) (a b : Report) : Type 0 where
  pub location : Location
  pub written : is_written f (object_of location) ≡ true
  pub first : IsReported f (opening f) no_numbers hs a
  pub second : IsReported f (opening f) no_numbers hs b
  pub by_first : Contains a.touched location
  pub by_second : Contains b.touched location

-- exactly these meet
abbrev pub PacketsMeetWhereTheyShare : Type 0
PacketsMeetWhereTheyShare = (f : Function) (hs : List Handling) (a b : Report) →
    Meet f hs a b ↔ Share f hs a b
