-- A run of made-up traffic, and what it leaves.
use Rattle.std.specs.Prelude.{◌≡◌, ◌≢◌, ◌<◌, ◌≤◌, ℕ, zero, suc, ◌+◌, Bool, List, ◌∷◌, ◌++◌, length, map, slice_get, Some, None, Result, Ok, Err}
use Rattle.capture_format.specs.declared.format.CaptureFormat.{CaptureFormat}
use Rattle.nf_base.specs.declared.card.Card.{Card}
use Rattle.nf_base.specs.Text.{Function}
use Rattle.nf_base.specs.declared.done.Done.{Done}
use Rattle.nf_base.specs.declared.keys.Keys.{Keys}
use Rattle.nf_base.specs.declared.packet.Packet.{Packet}
use Rattle.nf_base.specs.declared.state.State.{State}
use Rattle.nf_files.specs.Told.{Told, IsToldAs}
use Rattle.packet_feed.specs.Arrivals.{Arrival}
use Rattle.packet_feed.specs.Order.{in_order}
use Rattle.packet_feed.specs.Told.{packets_of}
use Rattle.run_history.specs.declared.line.Mode.{Mode}
use Rattle.run_history.specs.declared.line.Mode.TheVariants as mode
use Rattle.toeplitz_hash.specs.Meeting.{HashAlikeWhereTheyMeet}
use Rattle.stream_run.specs.declared.fault.RunFault.{RunFault}
use Rattle.stream_run.specs.Runs.{Run, Handled, course_of, arrival_in, handled_in}
use Rattle.stream_run.specs.Rules.{Rule, one_rule, shard_rule, IsRunBy}
use Rattle.stream_run.specs.Texts.{file_bytes, sent_records}
use Rattle.stream_run.specs.Writing.{IsFrontIfTold}
use Rattle.sharded_run.specs.declared.result.ShareFull.{ShareFull}
use Rattle.sharded_run.specs.Sharded.{IsStopBehind}
use Rattle.locked_run.specs.Locked as locked
use Rattle.traffic_run.specs.declared.worker_plan.WorkerPlan.{WorkerPlan}
use Rattle.traffic_run.specs.declared.worker_plan.WorkerPlan.TheVariants.{One, Shards, Sharing}
use Rattle.traffic_run.specs.declared.result.UncountedResult.{UncountedResult}
use Rattle.traffic_run.specs.declared.result.UncountedResult.TheVariants as left
use Rattle.traffic_run.specs.declared.result.TrafficResult.{TrafficResult}
use Rattle.traffic_run.specs.declared.result.TrafficResult.TheVariants as came

-- the packets of the captures in files, put into capture order; of each port it is said whether it has
-- a handler for IPv6
pub record ArePackets (six : List Bool) (captures : List ℕ) (told : Told) (arrivals : List Arrival) : Type 0 where
  pub all : List Arrival
  pub packets : packets_of six captures told ≡ Some all
  pub order : in_order all ≡ arrivals

-- ---- who handles the packets

-- The rule that is due: one worker's; that of several that share nothing, under keys; or that of several
-- that share all tables, and where the gate refused these, one worker's for them all.
abbrev pub IsDue : WorkerPlan → Type 0 → Rule → Type 0
IsDue One Refused rule = rule ≡ one_rule
IsDue (Shards keys workers) Refused rule = rule ≡ shard_rule keys workers
IsDue (Sharing workers) Refused rule = locked.IsDue workers Refused rule

-- These packets were handled by the rule that is due, with this network card.
pub record IsRunOf (worker_plan : WorkerPlan) (card : Card) (Refused : Type 0) (f : Function) (arrivals : List Arrival) (r : Run) : Type 0 where
  pub rule : Rule
  pub due : IsDue worker_plan Refused rule
  pub is_run : IsRunBy rule f card arrivals r

-- What is needed of who handles packets: several are more than one and at most 16, and keys are those
-- of the function.
abbrev pub Serves : Function → WorkerPlan → Type 0
Serves f One = Unit {0}
Serves f (Shards keys workers) = ((1 < workers) × (workers ≤ 16)) × ((length f.handlers ≤ length keys.ports) × HashAlikeWhereTheyMeet f keys)
Serves f (Sharing workers) = (1 < workers) × (workers ≤ 16)

-- ---- what a run leaves

-- Its files are whole, and its last state is told.
pub record IsWhole (worker_plan : WorkerPlan) (card : Card) (format : CaptureFormat) (Refused : Type 0) (f : Function) (arrivals : List Arrival) (now : Told) (files : List ℕ) (m : Mode) (state : State) : Type 0 where
  pub run : Run
  pub is_run : IsRunOf worker_plan card Refused f arrivals run
  pub mode_is : m ≡ run.mode
  pub left : (answers : List Done) × (course_of run ≡ Some (record { state = state; answers = answers }))
  pub wholes : (k file : ℕ) → slice_get files k ≡ Some file → IsToldAs (file_bytes format run k) (now.given file)

-- these are the first of packets, and this one is the next
abbrev pub AreBefore : List Arrival → List Arrival → Packet → Type 0
AreBefore arrivals given packet =
    (next : Arrival) × (later : List Arrival) × (next.packet ≡ packet) × (arrivals ≡ given ++ next ∷ later)

-- The run's packets are those before the packet at which a share has no index left, and its files are
-- whole.
pub record IsStopped (f : Function) (keys : Keys) (workers : ℕ) (card : Card) (format : CaptureFormat) (arrivals : List Arrival) (now : Told) (files : List ℕ) (full : ShareFull) : Type 0 where
  pub run : Run
  pub is_run : IsRunBy (shard_rule keys workers) f card (map arrival_in run.turns) run
  pub stops : IsStopBehind f keys workers run full.stop
  pub packets : AreBefore arrivals (map arrival_in run.turns) full.stop.packet
  pub wholes : (k file : ℕ) → slice_get files k ≡ Some file → IsToldAs (file_bytes format run k) (now.given file)

-- that is met by workers that share nothing, and by them alone
abbrev pub IsFull : WorkerPlan → Card → CaptureFormat → Function → List Arrival → Told → List ℕ → ShareFull → Type 0
IsFull One card format f arrivals now files full = ⊥
IsFull (Shards keys workers) card format f arrivals now files full = IsStopped f keys workers card format arrivals now files full
IsFull (Sharing workers) card format f arrivals now files full = ⊥

-- these are the first of packets
abbrev pub AreFirst : List Arrival → List Arrival → Type 0
AreFirst arrivals given = (later : List Arrival) × (arrivals ≡ given ++ later)

-- The run was stopped. Each file holds a front of what a run over some first packets leaves there.
pub record IsCutShort (worker_plan : WorkerPlan) (card : Card) (format : CaptureFormat) (Refused : Type 0) (f : Function) (arrivals : List Arrival) (now : Told) (files : List ℕ) : Type 0 where
  pub run : Run
  pub given : List Arrival
  pub first : AreFirst arrivals given
  pub is_run : IsRunOf worker_plan card Refused f given run
  pub fronts : (k file : ℕ) → slice_get files k ≡ Some file → IsFrontIfTold (file_bytes format run k) (now.given file)

-- what handling packets comes to
abbrev pub Leaves : WorkerPlan → Card → CaptureFormat → Type 0 → Function → List Arrival → Told → List ℕ → Result UncountedResult RunFault → Type 0
Leaves worker_plan card format Refused f arrivals now files (Ok (left.Whole m state)) = IsWhole worker_plan card format Refused f arrivals now files m state
Leaves worker_plan card format Refused f arrivals now files (Ok (left.Full full)) = IsFull worker_plan card format f arrivals now files full
Leaves worker_plan card format Refused f arrivals now files (Err stop) = IsCutShort worker_plan card format Refused f arrivals now files

-- ---- how many records it sent

-- how many records packets leave in so many outputs from one on
abbrev pub sent_from : List Handled → ℕ → ℕ → ℕ
sent_from hs port zero = 0
sent_from hs port (suc n) = length (sent_records port hs) + sent_from hs (port + 1) n

-- how many a run leaves in all outputs
abbrev pub sent_in : Run → ℕ
sent_in r = sent_from (handled_in r) 0 (length r.function.handlers)

-- it is told what each of so many files from a number on was given
abbrev pub AreTold : Told → ℕ → ℕ → Type 0
AreTold told first n = (k : ℕ) → k < n → told.given (first + k) ≢ None

-- A run left so many records in all outputs, whose files are numbered from one on, where what these were
-- given is told. In mode `lock` they aren't counted.
abbrev pub IsSent : Told → ℕ → Run → ℕ → Type 0
IsSent now first r sent = r.mode ≢ mode.Lock → AreTold now first (length r.function.handlers) → sent ≡ sent_in r

-- its files are whole, its last state is told, and how many records it sent
pub record IsFinished (worker_plan : WorkerPlan) (card : Card) (format : CaptureFormat) (Refused : Type 0) (f : Function) (arrivals : List Arrival) (now : Told) (files : List ℕ) (first : ℕ) (m : Mode) (state : State) (sent : ℕ) : Type 0 where
  pub whole : IsWhole worker_plan card format Refused f arrivals now files m state
  pub sent_is : IsSent now first whole.run sent

-- what a run comes to
abbrev pub Runs : WorkerPlan → Card → CaptureFormat → Type 0 → Function → List Arrival → Told → List ℕ → ℕ → Result TrafficResult RunFault → Type 0
Runs worker_plan card format Refused f arrivals now files first (Ok (came.Whole m state sent)) = IsFinished worker_plan card format Refused f arrivals now files first m state sent
Runs worker_plan card format Refused f arrivals now files first (Ok (came.Full full)) = IsFull worker_plan card format f arrivals now files full
Runs worker_plan card format Refused f arrivals now files first (Err stop) = IsCutShort worker_plan card format Refused f arrivals now files
