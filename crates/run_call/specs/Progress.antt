-- How far a run came, before its end.
use Rattle.std.specs.Prelude.{◌≡◌, ℕ, ◌+◌, ◌≤◌, List, length, Option, Some, None}
use Rattle.nf_base.specs.Functions.{function_of}
use Rattle.nf_base.specs.declared.done.Done.{Done}
use Rattle.nf_base.specs.declared.state.State.{State}
use Rattle.nf_files.specs.Told.{Told}
use Rattle.packet_feed.specs.Arrivals.{Arrival}
use Rattle.packet_feed.specs.Feeding.{Feeding}
use Rattle.run_history.specs.declared.line.Mode.{Mode}
use Rattle.stream_run.specs.Runs.{Run, course_of}
use Rattle.stream_run.specs.declared.ending.Ending.{Ending}
use Rattle.stream_run.specs.declared.ending.Ending.TheVariants as ending
use Rattle.command_words.specs.Commands.{Run as RunAsked}
use Rattle.command_words.specs.View as view
use Rattle.call_base.specs.declared.layout.FileOrder.TheVariants.{Created}
use Rattle.call_base.specs.declared.status.End.{End}
use Rattle.call_base.specs.declared.status.End.TheVariants.{Whole, Torn, TooMany}
use Rattle.call_base.specs.Leaving.{Leaves, HasCreated, HasMade}
use Rattle.call_base.specs.Names.{inputs_of}
use Rattle.call_base.specs.Outside.{Outside}
use Rattle.call_base.specs.Reading as reads
use Rattle.call_base.specs.Reading.{Reads}
use Rattle.run_call.specs.declared.job.Job.{Job}
use Rattle.run_call.specs.Modes.{IsWorkerPlan}
use Rattle.run_call.specs.Runs.{HasPorts, IsRunOf, IsEndOf}

-- what a job is: the run that a command asks for, with its function and the numbers of its files
pub record IsJob (before : Told) (job : Job) : Type 0 where
  pub has_ports : HasPorts (view.run job.command.now) before (function_of job.func.now)
  pub worker_plan :
      IsWorkerPlan (view.run job.command.now) (function_of job.func.now) job.worker_plan.now
  pub handlers : length job.func.now.handlers ≡ job.layout.ports
  pub first : job.layout.first ≡ before.next
  pub from_two : 2 ≤ job.layout.first
  pub captures : job.layout.captures ≡ job.layout.ports
  pub ports : job.layout.ports ≡ length (view.run job.command.now).captures
  pub behind : job.layout.behind ≡ Created
  pub some : 1 ≤ job.layout.ports
  pub few : job.layout.ports ≤ 4

-- the run that a job is of
abbrev pub asked : Job → RunAsked
asked job = view.run job.command.now

-- how many ports it has
abbrev pub ports_of : Job → ℕ
ports_of job = length (asked job).captures

-- what a run reads first
abbrev pub reads_of : RunAsked → Reads
reads_of c = record { text = c.function; captures = c.captures; most = c.most }

-- and what it leaves
abbrev pub leaves_of : RunAsked → Outside → Leaves
leaves_of c before =
    let ports = length c.captures in
    record { inputs = inputs_of c; captures = ports; ports = ports; format = c.format; out = c.out; base = before.told.next + 1 + ports }

-- the captures of a job were read
abbrev pub HasFed : Outside → Outside → Job → List ℕ → Feeding → Type 0
HasFed before now job captures feed = reads.HasFed (reads_of (asked job)) (function_of job.func.now) before now captures feed

-- The outputs and the journal were created, and nothing was given to them yet.
pub record HasReady (before now : Outside) (job : Job) (captures targets : List ℕ) (feed : Feeding) : Type 0 where
  pub created : HasCreated (leaves_of (asked job) before) before now targets
  pub fed : HasFed before created.old job captures feed

-- how a run ends, by how its packets ended and by the first torn capture
abbrev pub torn_end : Option (ℕ × ℕ) → End
torn_end None = Whole
torn_end (Some tear) = Torn tear.0 tear.1

abbrev pub end_of : ℕ → Ending → Option (ℕ × ℕ) → End
end_of most ending.All tear = torn_end tear
end_of most ending.TooMany tear = TooMany most

-- The packets were handled, and the outputs and the journal are whole.
pub record HasRun (Refused : Type 0) (before now : Outside) (job : Job) (mode : Mode) (packets : ℕ) (state : State) (end : End) : Type 0 where
  pub arrivals : List Arrival
  pub run : Run
  pub is_run : IsRunOf Refused (asked job) before.told arrivals run
  pub of_function : run.function ≡ function_of job.func.now
  pub mode_is : run.mode ≡ mode
  pub workers_are : run.workers ≡ (asked job).workers
  pub ending : IsEndOf (asked job) before.told arrivals run end
  pub count : length run.turns ≡ packets
  pub answers : List Done
  pub left : course_of run ≡ Some (record { state = state; answers = answers })
  pub made : let whole = ports_of job + 1 in HasMade (leaves_of (asked job) before) before now run whole whole
