-- The run over made-up traffic that a command asks for, and how it ends.
use Rattle.std.specs.Prelude.{◌≡◌, ℕ, ◌+◌, ◌<◌, List, [], ◌∷◌, ◌++◌, length, Some}
use Rattle.nf_base.specs.Text.{Function}
use Rattle.nf_base.specs.declared.done.Done.{Done}
use Rattle.nf_base.specs.declared.keys.Keys.{Keys}
use Rattle.nf_base.specs.declared.state.State.{State}
use Rattle.nf_files.specs.Told.{Told}
use Rattle.nf_files.specs.Causes.{Asked}
use Rattle.packet_feed.specs.Arrivals.{Arrival}
use Rattle.run_history.specs.declared.line.Mode.{Mode}
use Rattle.run_history.specs.declared.line.Mode.TheVariants as mode
use Rattle.key_synth.specs.declared.verdict.Cause.{Cause}
use Rattle.key_synth.specs.declared.verdict.Verdict.TheVariants.{Locked}
use Rattle.key_synth.specs.Verdicts.{IsVerdict}
use Rattle.key_synth.specs.Keys.{AreGiven}
use Rattle.shard_core.specs.declared.collected.Stop.{Stop as ShareStop}
use Rattle.sharded_run.specs.Sharded.{IsStopBehind}
use Rattle.stream_run.specs.Runs.{Run, course_of}
use Rattle.stream_run.specs.Rules.{Rule, IsRunBy}
use Rattle.traffic_run.specs.declared.traffic_spec.TrafficSpec.{TrafficSpec as Traffic}
use Rattle.traffic_run.specs.declared.worker_plan.WorkerPlan.{WorkerPlan}
use Rattle.traffic_run.specs.declared.worker_plan.WorkerPlan.TheVariants.{One, Shards, Sharing}
use Rattle.traffic_run.specs.TrafficSpecs.{asked_for}
use Rattle.traffic_run.specs.Runs.{AreBefore, IsSent}
use Rattle.traffic_summary.specs.Summary.{numbers_text, left_text}
use Rattle.command_words.specs.Commands.{Gen}
use Rattle.command_words.specs.declared.command.ModeChoice.TheVariants as choice
use Rattle.call_base.specs.declared.status.End.{End}
use Rattle.call_base.specs.declared.status.End.TheVariants.{Whole, Torn, TooMany, ShareFull}
use Rattle.call_base.specs.declared.status.FullShare.{FullShare}
use Rattle.call_base.specs.declared.status.NoKeys.{NoKeys}
use Rattle.call_base.specs.Source.{IsFunctionUnder}
use Rattle.call_base.specs.Named.{IsToldStop, SaysCause}
use Rattle.call_base.specs.Names.{reading, created_by}
use Rattle.call_base.specs.Rules.{HasKeys, MayShard, ShareTables, IsRuleOf}

-- ---- the packets

-- the traffic that a command asks for
abbrev pub traffic_of : Gen → Traffic
traffic_of c = record { seed = c.seed; count = c.count; flows = c.flows; card = c.card; format = c.format }

-- its packets, at a function's ports
abbrev pub packets_for : Gen → Function → List Arrival
packets_for c f = asked_for (traffic_of c) (length f.handlers)

-- ---- who handles them

-- Who handles the packets: one worker, or as many as are asked for, which share nothing under the
-- function's keys for the network card that is asked for, or share all tables.
abbrev pub IsWorkerPlan : Gen → Function → WorkerPlan → Type 0
IsWorkerPlan c f One = (c.workers ≡ 1) × (c.mode ≡ choice.Shard → HasKeys f c.card)
IsWorkerPlan c f (Shards keys workers) = (workers ≡ c.workers) × (1 < workers) × MayShard c.mode × AreGiven f c.card keys
IsWorkerPlan c f (Sharing workers) = (workers ≡ c.workers) × (1 < workers) ×
    ShareTables c.mode c.card f

-- A run of some packets that a command asks for: its text is what stood under its name, of a function with
-- keys for the network card that is asked for, where mode `shard` is. The packets are handled by the rule
-- that is due.
pub record IsRunOf (c : Gen) (Refused : Type 0) (told : Told) (given : List Arrival) (run : Run) : Type 0 where
  pub is_function : IsFunctionUnder told c.function run.function
  pub keyed : c.mode ≡ choice.Shard → HasKeys run.function c.card
  pub rule : Rule
  pub due : IsRuleOf Refused c.mode c.workers c.card run.function rule
  pub is_run : IsRunBy rule run.function c.card given run

-- ---- how it ends

-- Behind a run of several workers the next packet meets the share stop: its queue's share of a chain, of
-- this name, has no index left for it.
pub record IsFullBehind (c : Gen) (run : Run) (given : List Arrival) (full : FullShare) : Type 0 where
  pub keys : Keys
  pub are_given : AreGiven run.function c.card keys
  pub several : 1 < c.workers
  pub stop : ShareStop
  pub behind : IsStopBehind run.function keys c.workers run stop
  pub next : AreBefore (packets_for c run.function) given stop.packet
  pub said : IsToldStop run.function stop full

-- All packets were handled, or, by workers that share nothing, those before a share stop. Made-up captures
-- are whole, and there are as many packets as were asked for.
abbrev pub IsEndOf : Gen → Run → List Arrival → End → Type 0
IsEndOf c run given Whole = given ≡ packets_for c run.function
IsEndOf c run given (ShareFull full) = (run.mode ≡ mode.Shard) × IsFullBehind c run given full
IsEndOf c run given (Torn port offset) = ⊥
IsEndOf c run given (TooMany most) = ⊥

-- how many files a run of so many ports leaves: a share stop leaves no state
abbrev pub left_by : ℕ → End → ℕ
left_by ports Whole = ports + 2
left_by ports (ShareFull full) = ports + 1
left_by ports (Torn port offset) = ports + 2
left_by ports (TooMany most) = ports + 2

-- A function has no keys for the network card that is asked for, and mode `shard` is asked for.
pub record HasNoKeys (c : Gen) (told : Told) (why : NoKeys) : Type 0 where
  pub function : Function
  pub is_function : IsFunctionUnder told c.function function
  pub needs : c.mode ≡ choice.Shard
  pub cause : Cause
  pub locked : IsVerdict function c.card (Locked cause)
  pub says : SaysCause function cause why

-- ---- what is told of it

-- the lines that are told of a run that left records and a state; in mode `lock` these are not told
abbrev pub left_lines : Mode → Function → ℕ → State → List ℕ
left_lines mode.One f sent state = left_text f sent state
left_lines mode.Shard f sent state = left_text f sent state
left_lines mode.Lock f sent state = []

abbrev pub summary_text : Gen → Run → ℕ → State → List ℕ
summary_text c run sent state =
    numbers_text c.count (length run.function.handlers) run.mode c.workers ++ left_lines run.mode run.function sent state

-- a run's last state, how many records it left in all outputs, whose first has this number, and the lines
-- on it
pub record IsSummary (c : Gen) (now : Told) (first : ℕ) (run : Run) (text : List ℕ) : Type 0 where
  pub state : State
  pub left : (answers : List Done) × (course_of run ≡ Some (record { state = state; answers = answers }))
  pub sent : ℕ
  pub sent_is : IsSent now first run sent
  pub text_is : text ≡ summary_text c run sent state

-- the names that it asks for which creates so many files
abbrev pub asked_until : Gen → ℕ → ℕ → List Asked
asked_until c ports count = reading c.function ∷ created_by c.format c.out ports count
