-- Whole runs.
use Rattle.std.specs.Prelude.{ℕ, IsTrue, List, [], ◌∷◌, Option, Some, None, Contains}
use Rattle.std.specs.Option.{option_and_then}
use Rattle.nf_base.specs.Text.{Function}
use Rattle.nf_base.specs.declared.packet.Packet.{Packet}
use Rattle.nf_base.specs.declared.state.State.{State}
use Rattle.nf_base.specs.declared.done.Done.{Done}
use Rattle.nf_base.specs.Operations.{Stops, never}
use Rattle.nf_base.specs.Step.{StepResult, step, step_by, recorded, opening}
use Rattle.nf_base.specs.Objects.{is_written}
use Rattle.nf_base.specs.Locations.{Location, object_of, Numbers, no_numbers, locations, all_numbers}

-- a packet with its choices
pub record Handling : Type 0 where
  pub packet : Packet
  pub choices : List ℕ

-- the state after a run, and each packet's answer, in order
pub record RunResult : Type 0 where
  pub state : State
  pub answers : List Done

-- an answer in front of those of the packets that follow
abbrev pub with_answer : Done → Option RunResult → Option RunResult
with_answer done None = None
with_answer done (Some r) = Some (record { state = r.state; answers = done ∷ r.answers })

-- the run over packets with their choices, from a state; none where a packet has no step
abbrev pub run_by : Stops → Function → State → List Handling → Option RunResult
run_by stops f s [] = Some (record { state = s; answers = [] })
run_by stops f s (h ∷ hs) =
    option_and_then
    (λ (next : StepResult). with_answer next.done (run_by stops f next.state hs))
    (step_by stops f s h.packet h.choices)

-- the undivided run
abbrev pub run : Function → State → List Handling → Option RunResult
run f s hs = run_by never f s hs

-- a packet of a run, and the locations that it touched
pub record Report : Type 0 where
  pub packet : Packet
  pub touched : List Location

-- what a packet touches
abbrev pub report_of : Function → State → Numbers → Handling → Report
report_of f s ns h =
    record { packet = h.packet; touched = locations f.chains ns (recorded f s h.packet h.choices) }

-- what follows, where a packet has a step
abbrev pub if_stepped : Option StepResult → (State → List Report) → List Report
if_stepped None rest = []
if_stepped (Some next) rest = rest next.state

-- what was touched, packet by packet, up to and with the first one that has no step
abbrev pub reports : Function → State → Numbers → List Handling → List Report
reports f s ns [] = []
reports f s ns (h ∷ hs) =
    report_of f s ns h
    ∷ if_stepped (step f s h.packet h.choices)
    (λ next. reports f next (all_numbers ns (recorded f s h.packet h.choices)) hs)

-- the numbers after a packet's step, or where the run ends at it
abbrev pub numbers_if : Numbers → Option StepResult → (State → Numbers) → Numbers
numbers_if ns None rest = ns
numbers_if ns (Some next) rest = rest next.state

-- the numbers after the packets of a run, up to and with the first one that has no step
abbrev pub numbers_of : Function → State → Numbers → List Handling → Numbers
numbers_of f s ns [] = ns
numbers_of f s ns (h ∷ hs) =
    numbers_if (all_numbers ns (recorded f s h.packet h.choices)) (step f s h.packet h.choices)
    (λ next. numbers_of f next (all_numbers ns (recorded f s h.packet h.choices)) hs)

-- Two packets of a run meet where they touch one location of an object that the function writes.
pub record Meet (f : Function) (run : List Handling) (a b : Report) : Type 0 where
  pub first : Contains (reports f (opening f) no_numbers run) a
  pub second : Contains (reports f (opening f) no_numbers run) b
  pub location : Location
  pub written : IsTrue (is_written f (object_of location))
  pub by_first : Contains a.touched location
  pub by_second : Contains b.touched location
