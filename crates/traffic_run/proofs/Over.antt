-- A run over captures that are made of packets is one of these packets.
use Rattle.std.proofs.Common.{◌≡◌, inl, ℕ, Bool, List, [], length, map, take, Option, Some, Result, Ok, Err, refl, sym, ap, ap₂, subst, ◌∙◌, append-nil, arith}
use Rattle.std.specs.List.{slice_get}
use Rattle.std.proofs.lemmas.List.{length-map, take_all}
use Rattle.capture_format.specs.declared.format.CaptureFormat.{CaptureFormat}
use Rattle.nf_base.specs.declared.card.Card.{Card}
use Rattle.nf_base.specs.Doors.{six_ports}
use Rattle.nf_base.specs.Functions.{function_of}
use Rattle.nf_base.specs.Text.{Function}
use Rattle.nf_base.specs.declared.func.Func.{Func}
use Rattle.nf_base.specs.declared.keys.Keys.{Keys}
use Rattle.nf_base.specs.declared.packet.Packet.{Packet}
use Rattle.nf_files.specs.Told.{Told, IsEmptyIfTold, IsRead}
use Rattle.packet_feed.specs.Arrivals.{Arrival}
use Rattle.packet_feed.specs.Order.{in_order}
use Rattle.packet_feed.specs.Told.{packets_of, EachFile, KeepsOthers}
use Rattle.packet_feed.specs.Sources.{files_in, sixes_in}
use Rattle.packet_feed.specs.Feeding.{Feeding}
use Rattle.run_history.specs.declared.line.Mode.TheVariants as mode
use Rattle.stream_run.specs.declared.ran.Ran.{Ran}
use Rattle.stream_run.specs.Given.{HasCaptures, HasTargets}
use Rattle.stream_run.specs.Runs.{Run, arrival_in}
use Rattle.stream_run.specs.Rules.{Rule, one_rule, shard_rule, lock_rule, IsRunBy}
use Rattle.stream_run.specs.Texts.{file_bytes}
use Rattle.stream_run.specs.Streaming as stream
use Rattle.stream_run.specs.Lawful.{AreTheFirst, IsRunOver}
use Rattle.stream_run.specs.Lawful as one
use Rattle.stream_run.proofs.Complete.{empty_front}
use Rattle.stream_run.proofs.Ruled.{nothing_is}
use Rattle.sharded_run.specs.declared.result.ShareFull.{ShareFull}
use Rattle.sharded_run.specs.Sharded as sharded
use Rattle.sharded_run.specs.Lawful as shards
use Rattle.locked_run.specs.declared.result.LockedResult.{LockedResult}
use Rattle.locked_run.specs.Lawful as locked
use Rattle.gen_traffic.specs.Traffic.{Recipe, traffic}
use Rattle.gen_traffic.proofs.Streams.{counted}
use Rattle.made_captures.specs.Laws.{arrival_of, arrivals_of}
use Rattle.traffic_run.specs.declared.worker_plan.WorkerPlan.{WorkerPlan}
use Rattle.traffic_run.specs.declared.worker_plan.WorkerPlan.TheVariants.{One, Shards, Sharing}
use Rattle.stream_run.specs.declared.fault.RunFault.{RunFault}
use Rattle.traffic_run.specs.declared.result.UncountedResult.{UncountedResult}
use Rattle.traffic_run.specs.declared.result.UncountedResult.TheVariants as left
use Rattle.traffic_run.specs.Started.{HasStarted}
use Rattle.traffic_run.specs.Runs.{IsDue, IsWhole, AreBefore, IsStopped, AreFirst, IsCutShort, Leaves}

-- ---- the packets of traffic

pub arrivals_long : (r : Recipe) → length (arrivals_of r) ≡ r.count
arrivals_long r = length-map (traffic r) arrival_of ∙ (counted r).count

-- ---- nothing was handled

-- a rule that is due before any packet came
first_due : (worker_plan : WorkerPlan) (Refused : Type 0) → (rule : Rule) × IsDue worker_plan Refused rule
first_due One Refused = (one_rule, refl)
first_due (Shards keys workers) Refused = (shard_rule keys workers, refl)
first_due (Sharing workers) Refused = (lock_rule workers, inl refl)

-- where files are empty, each holds a front of what a run over no packet leaves there
pub none_by : (worker_plan : WorkerPlan) (card : Card) (format : CaptureFormat) (Refused : Type 0) (f : Function) (arrivals : List Arrival) (now : Told) (files : List ℕ) → ((k file : ℕ) → slice_get files k ≡ Some file → IsEmptyIfTold (now.given file)) → IsCutShort worker_plan card format Refused f arrivals now files
none_by worker_plan card format Refused f arrivals now files empty =
    let due = first_due worker_plan Refused in
    let r : Run = record { function = f; mode = due.0.mode; workers = due.0.workers; card = card; turns = [] } in
    record {
      run = r;
      given = [];
      first = (arrivals, refl);
      is_run = record { rule = due.0; due = due.1; is_run = nothing_is due.0 f card };
      fronts = λ k file e. empty_front (file_bytes format r k) (now.given file) (empty k file e);
    }

-- ---- what is known of captures that are told

told_of : (P : Option (List Arrival) → Type 0) (six : List Bool) (captures : List ℕ) (begun : Feeding) (start : Told) (arrivals : List Arrival) (h : HasStarted six captures begun start arrivals) → P (packets_of (sixes_in begun.sources) (files_in begun.sources) h.before) → P (Some h.packets.all)
told_of P six captures begun start arrivals h p = subst P (ap₂ (λ (ports : List Bool) (fs : List ℕ). packets_of ports fs h.before) h.six_is h.files ∙ h.packets.packets) p

-- all packets are the first so many
all_first : (six : List Bool) (captures : List ℕ) (begun : Feeding) (start : Told) (arrivals given : List Arrival) (h : HasStarted six captures begun start arrivals) → AreTheFirst begun.most (packets_of (sixes_in begun.sources) (files_in begun.sources) h.before) given → given ≡ arrivals
all_first six captures begun start arrivals given h p =
    told_of (λ o. AreTheFirst begun.most o given) six captures begun start arrivals h p
    ∙ ap (take begun.most) h.packets.order
    ∙ take_all begun.most arrivals (omega (arith, h.most))

some_first : (six : List Bool) (captures : List ℕ) (begun : Feeding) (start : Told) (arrivals given : List Arrival) (h : HasStarted six captures begun start arrivals) → stream.AreFirst (packets_of (sixes_in begun.sources) (files_in begun.sources) h.before) given → AreFirst arrivals given
some_first six captures begun start arrivals given h p =
    let first = told_of (λ o. stream.AreFirst o given) six captures begun start arrivals h p in
    (first.0, sym h.packets.order ∙ first.1)

-- ---- by one worker

by_one : (f : Function) (card : Card) (six : List Bool) (captures : List ℕ) (begun : Feeding) (start : Told) (arrivals : List Arrival) (r : Run) (h : HasStarted six captures begun start arrivals) → IsRunOver one_rule f card begun.most (packets_of (sixes_in begun.sources) (files_in begun.sources) h.before) r → IsRunBy one_rule f card arrivals r
by_one f card six captures begun start arrivals r h is =
    subst (λ (given : List Arrival). IsRunBy one_rule f card given r) (all_first six captures begun start arrivals is.given h is.packets) is.is_run

pub whole_one : (card : Card) (format : CaptureFormat) (Refused : Type 0) (f : Function) (six : List Bool) (captures : List ℕ) (begun : Feeding) (start : Told) (arrivals : List Arrival) (later : Feeding) (now : Told) (files : List ℕ) (ran : Ran) (h : HasStarted six captures begun start arrivals) → one.IsFinished f card format begun start later now files ran
    → IsWhole One card format Refused f arrivals now files mode.One ran.state
whole_one card format Refused f six captures begun start arrivals later now files ran h k =
    let is = by_one f card six captures begun start arrivals k.run h (k.lawful h.before h.stands) in
    record { run = k.run; is_run = record { rule = one_rule; due = refl; is_run = is }; mode_is = sym is.mode; left = k.left; wholes = k.wholes }

pub cut_one : (card : Card) (format : CaptureFormat) (Refused : Type 0) (f : Function) (six : List Bool) (captures : List ℕ) (begun : Feeding) (start : Told) (arrivals : List Arrival) (now : Told) (files : List ℕ) (h : HasStarted six captures begun start arrivals) → one.IsCutShort f card format begun start now files → IsCutShort One card format Refused f arrivals now files
cut_one card format Refused f six captures begun start arrivals now files h k =
    let cut = k.lawful h.before h.stands in
    record {
      run = cut.run;
      given = arrivals;
      first = ([], sym (append-nil arrivals));
      is_run = record { rule = one_rule; due = refl; is_run = by_one f card six captures begun start arrivals cut.run h cut.is_run };
      fronts = cut.fronts;
    }

-- ---- by several that share nothing

pub whole_shards : (card : Card) (format : CaptureFormat) (Refused : Type 0) (f : Function) (keys : Keys) (workers : ℕ) (six : List Bool) (captures : List ℕ) (begun : Feeding) (start : Told) (arrivals : List Arrival) (later : Feeding) (now : Told) (files : List ℕ) (ran : Ran) (h : HasStarted six captures begun start arrivals)
    → shards.IsFinished f keys workers card format begun start later now files ran → IsWhole (Shards keys workers) card format Refused f arrivals now files mode.Shard ran.state
whole_shards card format Refused f keys workers six captures begun start arrivals later now files ran h k = record {
  run = k.run;
  is_run = record {
    rule = shard_rule keys workers;
    due = refl;
    is_run = subst (λ (given : List Arrival). IsRunBy (shard_rule keys workers) f card given k.run) (all_first six captures begun start arrivals (map arrival_in k.run.turns) h (k.packets h.before h.stands)) k.is_run;
  };
  mode_is = sym k.is_run.mode;
  left = k.left;
  wholes = k.wholes;
}

before_of : (all arrivals given : List Arrival) (packet : Packet) → in_order all ≡ arrivals → sharded.AreBefore (Some all) given packet → AreBefore arrivals given packet
before_of all arrivals given packet order h = (h.0, h.1, h.2, sym order ∙ h.3)

pub full_shards : (f : Function) (keys : Keys) (workers : ℕ) (card : Card) (format : CaptureFormat) (six : List Bool) (captures : List ℕ) (begun : Feeding) (start : Told) (arrivals : List Arrival) (now : Told) (files : List ℕ) (full : ShareFull) (h : HasStarted six captures begun start arrivals) → shards.IsFull f keys workers card format begun start now files full
    → IsStopped f keys workers card format arrivals now files full
full_shards f keys workers card format six captures begun start arrivals now files full h k =
    let given = map arrival_in k.run.turns in
    record {
      run = k.run;
      is_run = k.is_run;
      stops = k.stops;
      packets = before_of h.packets.all arrivals given full.stop.packet h.packets.order (told_of (λ o. sharded.AreBefore o given full.stop.packet) six captures begun start arrivals h (k.packets h.before h.stands));
      wholes = k.wholes;
    }

pub cut_shards : (card : Card) (format : CaptureFormat) (Refused : Type 0) (f : Function) (keys : Keys) (workers : ℕ) (six : List Bool) (captures : List ℕ) (begun : Feeding) (start : Told) (arrivals : List Arrival) (now : Told) (files : List ℕ) (h : HasStarted six captures begun start arrivals) → shards.IsCutShort f keys workers card format begun start now files
    → IsCutShort (Shards keys workers) card format Refused f arrivals now files
cut_shards card format Refused f keys workers six captures begun start arrivals now files h k = record {
  run = k.run;
  given = map arrival_in k.run.turns;
  first = some_first six captures begun start arrivals (map arrival_in k.run.turns) h (k.packets h.before h.stands);
  is_run = record { rule = shard_rule keys workers; due = refl; is_run = k.is_run };
  fronts = k.fronts;
}

-- ---- by several that share all tables

pub whole_sharing : (card : Card) (format : CaptureFormat) (Refused : Type 0) (f : Function) (workers : ℕ) (six : List Bool) (captures : List ℕ) (begun : Feeding) (start : Told) (arrivals : List Arrival) (later : Feeding) (now : Told) (files : List ℕ) (came : LockedResult) (h : HasStarted six captures begun start arrivals)
    → locked.IsFinished f workers card format Refused begun start later now files came → IsWhole (Sharing workers) card format Refused f arrivals now files came.mode came.ran.state
whole_sharing card format Refused f workers six captures begun start arrivals later now files came h k = record {
  run = k.run;
  is_run = record {
    rule = k.rule;
    due = k.due;
    is_run = subst (λ (given : List Arrival). IsRunBy k.rule f card given k.run) (all_first six captures begun start arrivals k.given h (k.packets h.before h.stands)) k.is_run;
  };
  mode_is = k.mode_is ∙ sym k.is_run.mode;
  left = k.left;
  wholes = k.wholes;
}

pub cut_sharing : (card : Card) (format : CaptureFormat) (Refused : Type 0) (f : Function) (workers : ℕ) (six : List Bool) (captures : List ℕ) (begun : Feeding) (start : Told) (arrivals : List Arrival) (now : Told) (files : List ℕ) (h : HasStarted six captures begun start arrivals) → locked.IsCutShort f workers card format Refused begun start now files
    → IsCutShort (Sharing workers) card format Refused f arrivals now files
cut_sharing card format Refused f workers six captures begun start arrivals now files h k = record {
  run = k.run;
  given = k.given;
  first = some_first six captures begun start arrivals k.given h (k.packets h.before h.stands);
  is_run = record { rule = k.rule; due = k.due; is_run = k.is_run };
  fronts = k.fronts;
}

-- ---- files that are empty

pub still_empty : (files : List ℕ) (old new : Told) → ((g : ℕ) → new.given g ≡ old.given g) → ((k file : ℕ) → slice_get files k ≡ Some file → IsEmptyIfTold (old.given file)) → (k file : ℕ) → slice_get files k ≡ Some file → IsEmptyIfTold (new.given file)
still_empty files old new same empty k file e = subst IsEmptyIfTold (sym (same file)) (empty k file e)

-- ---- a gate that isn't asked may have refused or not

pub one_whole : (card : Card) (format : CaptureFormat) (Refused : Type 0) (f : Function) (arrivals : List Arrival) (now : Told) (files : List ℕ) (result : Result UncountedResult RunFault) → Leaves One card format ⊥ f arrivals now files result → Leaves One card format Refused f arrivals now files result
one_whole card format Refused f arrivals now files (Ok (left.Whole m state)) h = record { run = h.run; is_run = record { rule = h.is_run.rule; due = h.is_run.due; is_run = h.is_run.is_run }; mode_is = h.mode_is; left = h.left; wholes = h.wholes }
one_whole card format Refused f arrivals now files (Ok (left.Full full)) h = absurd h
one_whole card format Refused f arrivals now files (Err stop) h = record { run = h.run; given = h.given; first = h.first; is_run = record { rule = h.is_run.rule; due = h.is_run.due; is_run = h.is_run.is_run }; fronts = h.fronts }

pub shards_whole : (card : Card) (format : CaptureFormat) (Refused : Type 0) (f : Function) (keys : Keys) (workers : ℕ) (arrivals : List Arrival) (now : Told) (files : List ℕ) (result : Result UncountedResult RunFault) → Leaves (Shards keys workers) card format ⊥ f arrivals now files result → Leaves (Shards keys workers) card format Refused f arrivals now files result
shards_whole card format Refused f keys workers arrivals now files (Ok (left.Whole m state)) h = record { run = h.run; is_run = record { rule = h.is_run.rule; due = h.is_run.due; is_run = h.is_run.is_run }; mode_is = h.mode_is; left = h.left; wholes = h.wholes }
shards_whole card format Refused f keys workers arrivals now files (Ok (left.Full full)) h = h
shards_whole card format Refused f keys workers arrivals now files (Err stop) h = record { run = h.run; given = h.given; first = h.first; is_run = record { rule = h.is_run.rule; due = h.is_run.due; is_run = h.is_run.is_run }; fronts = h.fronts }

-- ---- what a run is given

-- a feed of captures that are made of packets reads them
pub has_captures : (func : Func) (captures : List ℕ) (feed : Feeding) (now : Told) (all : List Arrival) → HasStarted (six_ports (function_of func)) captures feed now all → length captures ≡ length func.handlers → EachFile (IsRead now) captures → HasCaptures func captures feed now
has_captures func captures feed now all started ports opened = record {
  reads = record { files = started.files; opened = opened };
  six = started.six_is;
  ports = ports;
}

-- files that were created are targets still after captures were read
pub still_targets : (func : Func) (captures targets : List ℕ) (old new : Told) → KeepsOthers captures old new → HasTargets func targets old → HasTargets func targets new
still_targets func captures targets old new kept h = record {
  writable = record { created = λ k file e. kept.kinds file ∙ h.writable.created k file e; apart = h.writable.apart };
  as_many = h.as_many;
  few = h.few;
  empty = still_empty targets old new kept.givens h.empty;
}
