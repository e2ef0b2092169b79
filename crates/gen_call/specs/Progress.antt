-- How far a run over made-up traffic came, before its end.
use Rattle.std.specs.Prelude.{◌≡◌, ℕ, ◌+◌, ◌≤◌, List, [], ◌∷◌, ◌++◌, length, Some}
use Rattle.nf_base.specs.Functions.{function_of}
use Rattle.nf_base.specs.declared.done.Done.{Done}
use Rattle.nf_base.specs.declared.state.State.{State}
use Rattle.run_history.specs.StateText.{state_text as text_of}
use Rattle.run_history.specs.declared.line.Mode.{Mode}
use Rattle.traffic_summary.specs.Summary.{numbers_text}
use Rattle.lock_mode.specs.Gates.{Rose}
use Rattle.stream_run.specs.Runs.{Run, course_of}
use Rattle.traffic_run.specs.Runs.{IsSent}
use Rattle.command_words.specs.Commands.{Gen}
use Rattle.command_words.specs.View as view
use Rattle.call_base.specs.declared.layout.FileOrder.TheVariants.{Created}
use Rattle.call_base.specs.Leaving.{Leaves, HasMade}
use Rattle.call_base.specs.Names.{reading, name_at}
use Rattle.call_base.specs.Outside.{Outside}
use Rattle.call_base.specs.Source.{IsFunctionUnder}
use Rattle.gen_call.specs.declared.job.Job.{Job}
use Rattle.gen_call.specs.Runs.{left_lines, packets_for, IsRunOf}

-- what was told and counted when the call began, and how often the gate had refused before the packets
-- were handled and after that
pub record Since : Type 0 where
  pub before : Outside
  pub was : ℕ
  pub is : ℕ

-- a gate refused in this call
abbrev pub HasRefused : Since → Type 0
HasRefused since = Rose since.was since.is

-- what a job is: the traffic that a command asks for, with its function and the numbers of its files
pub record IsJob (before : Outside) (job : Job) : Type 0 where
  pub is_function : IsFunctionUnder before.told (view.gen job.command.now).function (function_of job.func.now)
  pub handlers : length job.func.now.handlers ≡ job.layout.ports
  pub first : job.layout.first ≡ before.told.next
  pub captures : job.layout.captures ≡ 0
  pub behind : job.layout.behind ≡ Created
  pub from_two : 2 ≤ job.layout.first
  pub some : 1 ≤ job.layout.ports
  pub few : job.layout.ports ≤ 4

-- the traffic that a job is of
abbrev pub asked : Job → Gen
asked job = view.gen job.command.now

-- the name of its last state, the text of one, and the lines on the run that left it
abbrev pub state_name : Job → List ℕ
state_name job =
    let ports = length job.func.now.handlers in
    name_at (asked job).format (asked job).out ports (ports + 1)

abbrev pub state_text : Job → State → List ℕ
state_text job state = text_of (function_of job.func.now) state

abbrev pub lines_of : Job → Mode → State → ℕ → List ℕ
lines_of job mode state sent =
    numbers_text (asked job).count (length job.func.now.handlers) mode (asked job).workers
    ++ left_lines mode (function_of job.func.now) sent state

-- what a run of so many ports leaves
abbrev pub leaves_of : Gen → Outside → ℕ → Leaves
leaves_of c before ports = record { inputs = reading c.function ∷ []; captures = 0; ports = ports; format = c.format; out = c.out; base = before.told.next + 1 }

-- All packets were handled, and the outputs and the journal are whole. This state is left, and so many
-- records in all outputs.
pub record HasDone (since : Since) (now : Outside) (job : Job) (mode : Mode) (state : State) (sent : ℕ) : Type 0 where
  pub run : Run
  pub is_run : IsRunOf (asked job) (HasRefused since) since.before.told (packets_for (asked job) run.function) run
  pub of_function : run.function ≡ function_of job.func.now
  pub made : let ports = job.layout.ports in HasMade (leaves_of (asked job) since.before ports) since.before now run (ports + 1) (ports + 1)
  pub mode_is : mode ≡ run.mode
  pub left : (answers : List Done) × (course_of run ≡ Some (record { state = state; answers = answers }))
  pub sent_is : IsSent now.told (since.before.told.next + 1) run sent
