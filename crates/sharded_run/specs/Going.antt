-- What a run in mode `shard` has come to, and how it ends.
use Rattle.std.specs.Prelude.{◌≡◌, ◌≤◌, ◌<◌, ℕ, List, [], length, map, slice_get, Some}
use Rattle.std.specs.List.{AllByRecursion}
use Rattle.nf_base.specs.declared.card.Card.{Card}
use Rattle.capture_format.specs.declared.format.CaptureFormat.{CaptureFormat}
use Rattle.nf_base.specs.declared.func.Func.{Func}
use Rattle.nf_base.specs.declared.keys.Keys.{Keys}
use Rattle.nf_base.specs.declared.packet.Fields.{Fields}
use Rattle.nf_base.specs.declared.share.Share.{Share}
use Rattle.nf_base.specs.declared.state.State.{State}
use Rattle.nf_base.specs.Text.{Function}
use Rattle.nf_base.specs.Shares.{IsShareStop}
use Rattle.nf_files.specs.Told.{Told, IsToldAs}
use Rattle.nf_base.specs.Hashed.{HasInput}
use Rattle.packet_feed.specs.Told.{packets_of}
use Rattle.packet_feed.specs.Sources.{files_in, sixes_in}
use Rattle.packet_feed.specs.Feeding.{Feeding, StandsFor}
use Rattle.run_history.specs.declared.line.Mode.TheVariants.{Shard}
use Rattle.shard_machine.specs.declared.event.Answer.{Answer}
use Rattle.shard_machine.specs.Machine as machine
use Rattle.shard_machine.specs.Machine.{Machine}
use Rattle.vig_tables.specs.TablesState.{TablesState}
use Rattle.shard_core.specs.Finished.{tables_in}
use Rattle.shard_core.specs.Sharded as shards
use Rattle.shard_core.specs.Sharded.{Sharded}
use Rattle.shard_core.specs.declared.collected.Stop.{Stop}
use Rattle.stream_run.specs.declared.ending.Ending.{Ending}
use Rattle.stream_run.specs.Runs.{Handled}
use Rattle.stream_run.specs.Texts.{bytes_of}
use Rattle.stream_run.specs.Writing.{AreFronts}
use Rattle.stream_run.specs.Streaming.{arrival_of, AreFirst, IsEnding}
use Rattle.stream_run.specs.Rules.{queue_by, shard_rule, AreBy}
use Rattle.sharded_run.specs.Setups.{setup_of}
use Rattle.sharded_run.specs.Sharded.{AreBefore}
use Rattle.sharded_run.specs.Reading.{Rises}
use Rattle.stream_run.specs.declared.ran.Ran.{Ran}

-- a packet that was handled, as its worker answered
abbrev pub answer_in : Handled → Answer
answer_in h = record { packet = h.arrival.packet; done = h.done }

-- Shards worked these packets, gave up their answers, and were given no others.
pub record HaveWorked (f : Function) (keys : Keys) (workers : ℕ) (hs : List Handled) (v : Sharded) : Type 0 where
  pub share : ℕ → Share
  pub at : Machine
  pub stands : shards.StandsFor (setup_of f keys workers share) at v
  pub collected : at.collected ≡ map answer_in hs
  pub sent : at.dispatched ≡ machine.packets_of at.collected
  pub queues : AllByRecursion (λ (h : Handled). h.worker ≡ queue_by keys workers h.arrival.packet) hs
  pub last : ℕ
  pub rises : Rises 0 at.dispatched last
  pub inputs : AllByRecursion HasInput at.dispatched

-- The run was stopped. These packets were handled until then, and each file was given a front of what
-- they leave there.
pub record Halts (f : Function) (keys : Keys) (workers : ℕ) (card : Card) (format : CaptureFormat) (ports : ℕ) (begun : Feeding) (start now : Told) (files : List ℕ) : Type 0 where
  pub hs : List Handled
  pub state : State
  pub sharded : AreBy (shard_rule keys workers) f hs state
  pub first : (before : Told) → StandsFor before [] begun start → AreFirst (packets_of (sixes_in begun.sources) (files_in begun.sources) before) (map arrival_of hs)
  pub within : length hs ≤ begun.most
  pub fronts : AreFronts Shard workers card format ports hs now files

-- All packets were handled, or as many as may be; of them the files have what is said.
pub record EndsWith (f : Function) (keys : Keys) (workers : ℕ) (begun : Feeding) (start : Told) (feed : Feeding) (v : Sharded) (ending : Ending) (Left : List Handled → Type 0) : Type 0 where
  pub hs : List Handled
  pub worked : HaveWorked f keys workers hs v
  pub first : (before : Told) → StandsFor before [] begun start → AreFirst (packets_of (sixes_in begun.sources) (files_in begun.sources) before) (map arrival_of hs)
  pub ending_is : (before : Told) → StandsFor before [] begun start → IsEnding ending feed before hs
  pub same_files : files_in feed.sources ≡ files_in begun.sources
  pub same_six : sixes_in feed.sources ≡ sixes_in begun.sources
  pub same_most : feed.most ≡ begun.most
  pub within : length hs ≤ begun.most
  pub count : length hs ≡ feed.given
  pub left : Left hs

-- A share stop was met, and the packets before it were handled; of them the files have what is said.
pub record StopsWith (f : Function) (keys : Keys) (workers : ℕ) (begun : Feeding) (start : Told) (stop : Stop) (packets : ℕ) (Left : List Handled → Type 0) : Type 0 where
  pub hs : List Handled
  pub state : State
  pub sharded : AreBy (shard_rule keys workers) f hs state
  pub queue_is : stop.queue ≡ queue_by keys workers stop.packet
  pub fields : Fields
  pub choices : List ℕ
  pub share : Share
  pub share_is : (share.queue ≡ stop.queue) × (share.of ≡ workers)
  pub stops : IsShareStop share f state stop.packet fields choices stop.chain
  pub before_it : (before : Told) → StandsFor before [] begun start → AreBefore (packets_of (sixes_in begun.sources) (files_in begun.sources) before) (map arrival_of hs) stop.packet
  pub within : length hs < begun.most
  pub count : length hs ≡ packets
  pub left : Left hs

-- each file was given what packets leave there
abbrev pub AreWhole : ℕ → Card → CaptureFormat → ℕ → Told → List ℕ → List Handled → Type 0
AreWhole workers card format ports now files hs =
    (k file : ℕ) → slice_get files k ≡ Some file → IsToldAs (bytes_of Shard workers card format ports k hs) (now.given file)

-- how a run ended whose last state is told
pub record IsLast (f : Function) (keys : Keys) (workers : ℕ) (hs : List Handled) (ending : Ending) (packets : ℕ) (ran : Ran) : Type 0 where
  pub ending_is : ran.ending ≡ ending
  pub packets_is : ran.packets ≡ packets
  pub sharded : AreBy (shard_rule keys workers) f hs ran.state

-- shards of a function that hold these tables, of which all packets are collected
pub record IsMadeOf (v : Sharded) (func : Func) (parts : List TablesState) (time : ℕ) : Type 0 where
  pub func_is : v.func ≡ func
  pub tables_are : tables_in v.workers ≡ parts
  pub time_is : v.time ≡ time
  pub none : v.queues.items ≡ []
