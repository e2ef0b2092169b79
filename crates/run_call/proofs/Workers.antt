-- A run of the packets of captures, by the workers that a command asks for.
use Rattle.std.proofs.Common.{◌≡◌, inl, inr, ℕ, ◌+◌, ◌<◌, ◌≤◌, List, [], ◌∷◌, ◌++◌, length, map, Option, Some, None, slice_get, Err, refl, ap, sym, subst, ◌∙◌, arith, drop, take-append-drop}
use Rattle.std.proofs.lemmas.List.{length-map}
use Rattle.std.proofs.lemmas.Option.{slice_get_within}
use Rattle.nf_base.specs.Functions.{function_of}
use Rattle.nf_base.specs.Text.{Function}
use Rattle.nf_base.specs.declared.keys.Keys.{Keys}
use Rattle.nf_base.specs.declared.card.Card.{Card}
use Rattle.nf_base.specs.declared.done.Done.{Done}
use Rattle.nf_base.specs.declared.state.State.{State}
use Rattle.nf_files.specs.Told.{IsToldAs, IsRead, IsWritten}
use Rattle.nf_files.specs.Causes.{asking}
use Rattle.packet_feed.specs.Arrivals.{Arrival}
use Rattle.packet_feed.specs.Order.{in_order}
use Rattle.packet_feed.specs.Told.{packets_of, EachFile}
use Rattle.packet_feed.specs.Sources.{files_in, sixes_in}
use Rattle.packet_feed.specs.Feeding.{Feeding, StandsFor, first_tear, tears_in}
use Rattle.packet_feed.proofs.Standing.{stands_among}
use Rattle.run_history.specs.declared.line.Mode.{Mode}
use Rattle.run_history.specs.declared.line.Mode.TheVariants.{One, Shard}
use Rattle.key_synth.specs.Keys.{AreGiven}
use Rattle.shard_core.specs.declared.collected.Stop.{Stop as ShareStop}
use Rattle.sharded_run.specs.declared.result.ShareFull.{ShareFull as Full}
use Rattle.sharded_run.specs.Sharded.{IsStopBehind, AreBefore}
use Rattle.sharded_run.specs.Lawful as shards
use Rattle.locked_run.specs.declared.result.LockedResult.{LockedResult}
use Rattle.locked_run.specs.Locked.{IsDue}
use Rattle.locked_run.specs.Lawful as tables
use Rattle.stream_run.specs.Given.{HasCaptures, HasTargets}
use Rattle.stream_run.specs.Runs.{Run, arrival_in, course_of}
use Rattle.stream_run.specs.Rules.{Rule, one_rule, shard_rule, lock_rule, IsRunBy}
use Rattle.stream_run.specs.Texts.{file_bytes}
use Rattle.stream_run.specs.Streaming.{AreFirst}
use Rattle.stream_run.specs.Lawful as lawful
use Rattle.stream_run.specs.Lawful.{IsRunOver, AreTheFirst}
use Rattle.stream_run.specs.Writing.{IsFrontIfTold, IsStopCause, StopsAmong, KeepsBut}
use Rattle.stream_run.specs.declared.ran.Ran.{Ran}
use Rattle.stream_run.specs.declared.fault.RunFault.{RunFault}
use Rattle.stream_run.proofs.Complete.{cut_short as one_cut, halts_none}
use Rattle.stream_run.proofs.Ruled.{nothing_is}
use Rattle.call_base.specs.declared.status.End.{End}
use Rattle.call_base.specs.declared.status.End.TheVariants.{ShareFull}
use Rattle.call_base.specs.declared.status.FullShare.{FullShare}
use Rattle.call_base.specs.Captures.{packets_under}
use Rattle.call_base.specs.Layout.{run_numbering, stop_named}
use Rattle.call_base.specs.Named.{IsToldStop}
use Rattle.call_base.specs.Names.{name_at, created_by}
use Rattle.call_base.specs.Opened.{AreAllCreated, AreSomeCreated, AsksSome}
use Rattle.call_base.specs.Outside.{Outside}
use Rattle.call_base.proofs.Ending.{has_made, broken_running, broken_creating, targets_empty}
use Rattle.call_base.proofs.Reading.{file_in, fed_next, fed_only, captures_from, all_captures, packets_fed}
use Rattle.run_call.specs.declared.worker_plan.WorkerPlan.{WorkerPlan}
use Rattle.run_call.specs.declared.worker_plan.WorkerPlan.TheVariants as worker_plan
use Rattle.run_call.specs.declared.job.Job.{Job}
use Rattle.call_base.specs.Rules.{IsRuleOf, by_one, by_shards, by_tables, by_none}
use Rattle.run_call.specs.Modes.{IsWorkerPlan}
use Rattle.run_call.specs.Runs.{HasPorts, IsRunOf, IsEndOf, packets}
use Rattle.run_call.specs.Ending.{IsStopped}
use Rattle.run_call.specs.Progress.{IsJob, HasFed, HasReady, HasRun, asked, ports_of, leaves_of, end_of}
use Rattle.run_call.proofs.Ends.{ends_as}
use Rattle.run_call.proofs.Finishing.{are_of, cut_short}

-- ---- a run of the feed's packets is one that was asked for

run_of : (Refused : Type 0) (before now : Outside) (job : Job) (captures : List ℕ) (feed : Feeding) (rule : Rule) (arrivals : List Arrival) (r : Run) → IsJob before.told job → IsRuleOf Refused (asked job).mode (asked job).workers (asked job).card (function_of job.func.now) rule → (h : HasFed before now job captures feed)
    → IsRunBy rule (function_of job.func.now) (asked job).card arrivals r → length arrivals ≤ feed.most → AreFirst (packets_of (sixes_in feed.sources) (files_in feed.sources) h.old.told) arrivals → ((asked job).workers ≡ 1 → AreTheFirst feed.most (packets_of (sixes_in feed.sources) (files_in feed.sources) h.old.told) arrivals)
    → IsRunOf Refused (asked job) before.told arrivals r
run_of Refused before now job captures feed rule arrivals r is due h run within first all =
    let c = asked job in
    let same = sym run.function in
    let told = packets_fed r.function feed h run.function refl refl in
    record {
      has_ports = subst (HasPorts c before.told) same is.has_ports;
      captures = all_captures h;
      rule = rule;
      due = subst (λ (f : Function). IsRuleOf Refused c.mode c.workers c.card f rule) same due;
      is_run = subst (λ (f : Function). IsRunBy rule f c.card arrivals r) same run;
      within = subst (λ (m : ℕ). length arrivals ≤ m) h.fresh.most within;
      first = subst (λ (ps : Option (List Arrival)). AreFirst ps arrivals) told first;
      all = λ alone.
          subst (λ (m : ℕ). AreTheFirst m (packets_under r.function c.captures before.told) arrivals) h.fresh.most
          (subst (λ (ps : Option (List Arrival)). AreTheFirst feed.most ps arrivals) told (all alone));
    }

-- the first so many packets are a front of all
first_taken : (most : ℕ) (all : Option (List Arrival)) (given : List Arrival) → AreTheFirst most all given → AreFirst all given
first_taken most None given h = tt
first_taken most (Some all) given h = (drop most (in_order all), sym (ap (λ (t : List Arrival). t ++ drop most (in_order all)) h ∙ take-append-drop most (in_order all)))

-- so are those before another one
first_before : (all : Option (List Arrival)) (given : List Arrival) (stop : ShareStop) → AreBefore all given stop.packet → AreFirst all given
first_before None given stop h = tt
first_before (Some all) given stop h = (h.0 ∷ h.1, h.3)

none_first : (all : Option (List Arrival)) → AreFirst all []
none_first None = tt
none_first (Some all) = (in_order all, refl)

-- by one worker: these are all packets that are due
lone_of : (Refused : Type 0) (before now : Outside) (job : Job) (captures : List ℕ) (feed : Feeding) (r : Run) → IsJob before.told job → (asked job).workers ≡ 1 → (h : HasFed before now job captures feed) → IsRunOver one_rule (function_of job.func.now) (asked job).card feed.most (packets_of (sixes_in feed.sources) (files_in feed.sources) h.old.told) r
    → IsRunOf Refused (asked job) before.told (packets r) r
lone_of Refused before now job captures feed r is alone h one =
    let all = packets_of (sixes_in feed.sources) (files_in feed.sources) h.old.told in
    let due : IsRuleOf Refused (asked job).mode (asked job).workers (asked job).card (function_of job.func.now) one_rule = by_one alone refl in
    subst (λ (given : List Arrival). IsRunOf Refused (asked job) before.told given r) (sym one.is_run.order)
    (run_of Refused before now job captures feed one_rule one.given r is due h one.is_run one.within (first_taken feed.most all one.given one.packets) (λ e. one.packets))

-- one of several: no capture has to be read to its end
several_of : (Refused : Type 0) (before now : Outside) (job : Job) (captures : List ℕ) (feed : Feeding) (rule : Rule) (arrivals : List Arrival) (r : Run) → IsJob before.told job → 1 < (asked job).workers → IsRuleOf Refused (asked job).mode (asked job).workers (asked job).card (function_of job.func.now) rule → (h : HasFed before now job captures feed)
    → IsRunBy rule (function_of job.func.now) (asked job).card arrivals r → length arrivals ≤ feed.most → AreFirst (packets_of (sixes_in feed.sources) (files_in feed.sources) h.old.told) arrivals → IsRunOf Refused (asked job) before.told arrivals r
several_of Refused before now job captures feed rule arrivals r is several due h run within first =
    run_of Refused before now job captures feed rule arrivals r is due h run within first (λ e. absurd (omega (arith, several, e)))

-- ---- the rules that are due

shards_due : (Refused : Type 0) (job : Job) (keys : Keys) → IsWorkerPlan (asked job) (function_of job.func.now) (worker_plan.Shards keys) → IsRuleOf Refused (asked job).mode (asked job).workers (asked job).card (function_of job.func.now) (shard_rule keys (asked job).workers)
shards_due Refused job keys several = by_shards keys several.0.0 several.1 several.2 refl

tables_due : (Refused : Type 0) (job : Job) (rule : Rule) → IsWorkerPlan (asked job) (function_of job.func.now) worker_plan.Tables → IsDue (asked job).workers Refused rule → IsRuleOf Refused (asked job).mode (asked job).workers (asked job).card (function_of job.func.now) rule
tables_due Refused job rule several (inl e) = by_tables several.0 several.1 e
tables_due Refused job rule several (inr e) = by_none several.0 several.1 e.0 e.1

-- how many workers the rule tells
counted_by : (workers : ℕ) (Refused : Type 0) (rule : Rule) → IsDue workers Refused rule → rule.workers ≡ workers
counted_by workers Refused rule (inl e) = ap (λ (r : Rule). r.workers) e
counted_by workers Refused rule (inr e) = ap (λ (r : Rule). r.workers) e.1

-- ---- before its first packet

-- workers that handled nothing yet
abbrev empty_run : Rule → Function → Card → Run
empty_run rule f card = record { function = f; mode = rule.mode; workers = rule.workers; card = card; turns = [] }

-- of several by a rule that is due
none_of : (Refused : Type 0) (before a : Outside) (job : Job) (captures : List ℕ) (feed : Feeding) (rule : Rule) → IsJob before.told job → 1 < (asked job).workers → IsRuleOf Refused (asked job).mode (asked job).workers (asked job).card (function_of job.func.now) rule → HasFed before a job captures feed → (r : Run) × IsRunOf Refused (asked job) before.told (packets r) r
none_of Refused before a job captures feed rule is several due h =
    let f = function_of job.func.now in
    let card = (asked job).card in
    (empty_run rule f card, several_of Refused before a job captures feed rule [] (empty_run rule f card) is several due h (nothing_is rule f card) (omega arith) (none_first (packets_of (sixes_in feed.sources) (files_in feed.sources) h.old.told)))

-- one worker that handled nothing yet
begun_one : (Refused : Type 0) (before a : Outside) (job : Job) (captures : List ℕ) (feed : Feeding) → IsJob before.told job → (asked job).workers ≡ 1 → HasFed before a job captures feed → (r : Run) × IsRunOf Refused (asked job) before.told (packets r) r
begun_one Refused before a job captures feed is alone h =
    let f = function_of job.func.now in
    let as_many : length (files_in feed.sources) ≡ length f.handlers = ap (λ (fs : List ℕ). length fs) h.fresh.files ∙ h.opened.all ∙ is.has_ports.as_many in
    let cut = one_cut f (asked job).card (asked job).format feed a.told a.told [] as_many h.fresh.six (halts_none f (asked job).card (asked job).format (length f.handlers) feed a.told [] (λ k file e. absurd (cc e))) in
    let some = cut.lawful h.old.told h.stands in
    (some.run, lone_of Refused before a job captures feed some.run is alone h some.is_run)

-- a run that was asked for, before its first packet
begun_by : (Refused : Type 0) (before a : Outside) (job : Job) (captures : List ℕ) (feed : Feeding) (of : WorkerPlan) → IsJob before.told job → IsWorkerPlan (asked job) (function_of job.func.now) of → HasFed before a job captures feed → (r : Run) × IsRunOf Refused (asked job) before.told (packets r) r
begun_by Refused before a job captures feed worker_plan.One is by h = begun_one Refused before a job captures feed is by.0 h
begun_by Refused before a job captures feed (worker_plan.Shards keys) is by h = none_of Refused before a job captures feed (shard_rule keys (asked job).workers) is by.0.0 (shards_due Refused job keys by) h
begun_by Refused before a job captures feed worker_plan.Tables is by h = none_of Refused before a job captures feed (lock_rule (asked job).workers) is by.0 (tables_due Refused job (lock_rule (asked job).workers) by (inl refl)) h

begun : (Refused : Type 0) (before a : Outside) (job : Job) (captures : List ℕ) (feed : Feeding) → IsJob before.told job → HasFed before a job captures feed → (r : Run) × IsRunOf Refused (asked job) before.told (packets r) r
begun Refused before a job captures feed is h = begun_by Refused before a job captures feed job.worker_plan.now is is.worker_plan h

-- not all files could be created
pub uncreated : (Refused : Type 0) (before a b : Outside) (job : Job) (captures : List ℕ) (feed : Feeding) (stop : RunFault) → IsJob before.told job → HasFed before a job captures feed → AreSomeCreated a.told b.told (name_at (asked job).format (asked job).out (ports_of job)) (ports_of job + 1) stop → AsksSome (created_by (asked job).format (asked job).out (ports_of job) (ports_of job + 1)) a.counted b.counted stop
    → IsStopped Refused (asked job) before b (stop_named (run_numbering before.told.next (ports_of job)) stop)
uncreated Refused before a b job captures feed stop is h some asks =
    let c = asked job in
    let r = begun Refused before a job captures feed is h in
    cut_short c before b (packets r.0) r.0 _ r.1
    (broken_creating (leaves_of c before) _ _ _ before a b r.0 stop (are_of before job r.0 is r.1.has_ports) (omega (arith, fed_next h, h.opened.all)) (fed_only h) some asks)

-- all were
pub is_ready : (before a b : Outside) (job : Job) (captures slice targets : List ℕ) (feed : Feeding) → IsJob before.told job → HasFed before a job captures feed → slice ≡ targets → AreAllCreated a.told b.told (name_at (asked job).format (asked job).out job.layout.ports) targets (job.layout.ports + 1)
    → b.counted ≡ asking (created_by (asked job).format (asked job).out job.layout.ports (job.layout.ports + 1)) a.counted → HasReady before b job captures slice feed
is_ready before a b job captures slice targets feed is h same created counted = record {
  created = record {
    old = a;
    next = omega (arith, fed_next h, h.opened.all);
    only = fed_only h;
    created = subst (λ (p : ℕ). AreAllCreated a.told b.told (name_at (asked job).format (asked job).out p) slice (p + 1)) is.ports (subst (λ (fs : List ℕ). AreAllCreated a.told b.told (name_at (asked job).format (asked job).out job.layout.ports) fs (job.layout.ports + 1)) (sym same) created);
    asked_for = subst (λ (p : ℕ). b.counted ≡ asking (created_by (asked job).format (asked job).out p (p + 1)) a.counted) is.ports counted;
  };
  fed = h;
}

-- ---- the end of a run

-- a feed whose outputs were created: that takes nothing from captures
ready_stands : (before a : Outside) (job : Job) (captures targets : List ℕ) (feed : Feeding) → (h : HasReady before a job captures targets feed) → StandsFor h.fed.old.told [] feed a.told
ready_stands before a job captures targets feed h =
    let fed = h.fed in
    record {
      count = fed.stands.count;
      sources = stands_among fed.old.told [] feed.sources h.created.old.told a.told (λ port s e.
          let at = ap (λ (fs : List ℕ). slice_get fs port) (sym fed.fresh.files) ∙ file_in feed.sources port s e in
          h.created.created.created.rests s.reading.file (omega (arith, fed.opened.numbers port s.reading.file at, slice_get_within captures port s.reading.file at, fed_next fed))) fed.stands.sources;
    }

-- all packets were handled, or those before a share stop
handled : {Refused : Type 0} (before a b : Outside) (job : Job) (captures targets : List ℕ) (feed : Feeding) (mode : Mode) (count : ℕ) (state : State) (end : End) (arrivals : List Arrival) (run : Run) → IsJob before.told job → HasReady before a job captures targets feed → IsRunOf Refused (asked job) before.told arrivals run
    → run.function ≡ function_of job.func.now → run.mode ≡ mode → run.workers ≡ (asked job).workers → IsEndOf (asked job) before.told arrivals run end → length run.turns ≡ count → (answers : List Done) → course_of run ≡ Some (record { state = state; answers = answers })
    → KeepsBut targets a.told b.told → b.counted ≡ a.counted → ((k file : ℕ) → slice_get targets k ≡ Some file → IsToldAs (file_bytes (asked job).format run k) (b.told.given file)) → HasRun Refused before b job mode count state end
handled before a b job captures targets feed mode count state end arrivals run is h is_run f m w ending long answers left kept counted wholes = record {
  arrivals = arrivals;
  run = run;
  is_run = is_run;
  of_function = f;
  mode_is = m;
  workers_are = w;
  ending = ending;
  count = long;
  answers = answers;
  left = left;
  made = has_made (leaves_of (asked job) before) before a b targets run (are_of before job run is is_run.has_ports) h.created kept counted wholes;
}

-- a run was stopped while it handled packets
halted_at : {Refused : Type 0} (before a b : Outside) (job : Job) (captures targets : List ℕ) (feed : Feeding) (stop : RunFault) (arrivals : List Arrival) (run : Run) → IsJob before.told job → HasReady before a job captures targets feed → IsRunOf Refused (asked job) before.told arrivals run → KeepsBut targets a.told b.told
    → ((k file : ℕ) → slice_get targets k ≡ Some file → IsFrontIfTold (file_bytes (asked job).format run k) (b.told.given file)) → IsStopCause {T = Unit {0}} a.counted b.counted (Err stop) → StopsAmong {T = Unit {0}} captures targets (Err stop) → IsStopped Refused (asked job) before b (stop_named (run_numbering before.told.next (ports_of job)) stop)
halted_at before a b job captures targets feed stop arrivals run is h is_run kept fronts cause among =
    cut_short (asked job) before b arrivals run _ is_run
    (broken_running (leaves_of (asked job) before) _ _ _ before a b captures targets run stop (are_of before job run is is_run.has_ports) h.created (captures_from h.fed) kept fronts cause among)

-- by one worker
pub one_finished : (Refused : Type 0) (before a b : Outside) (job : Job) (captures targets : List ℕ) (feed next : Feeding) (ran : Ran) → IsJob before.told job → (asked job).workers ≡ 1 → HasReady before a job captures targets feed → lawful.IsFinished (function_of job.func.now) (asked job).card (asked job).format feed a.told next b.told targets ran → KeepsBut targets a.told b.told → b.counted ≡ a.counted
    → HasRun Refused before b job One ran.packets ran.state (end_of (asked job).most ran.ending (first_tear 0 (tears_in next.sources)))
one_finished Refused before a b job captures targets feed next ran is alone h fin kept counted =
    let stands = ready_stands before a job captures targets feed h in
    let one = fin.lawful h.fed.old.told stands in
    handled before a b job captures targets feed One ran.packets ran.state _ (packets fin.run) fin.run is h (lone_of Refused before h.created.old job captures feed fin.run is alone h.fed one) one.is_run.function one.is_run.mode (one.is_run.workers ∙ sym alone)
    (ends_as before h.created.old job captures feed next ran.ending (packets fin.run) fin.run one.is_run.function h.fed fin.same_files fin.same_six fin.same_most (fin.ending h.fed.old.told stands)) fin.count fin.left.0 fin.left.1 kept counted fin.wholes

pub one_halted : (Refused : Type 0) (before a b : Outside) (job : Job) (captures targets : List ℕ) (feed : Feeding) (stop : RunFault) → IsJob before.told job → (asked job).workers ≡ 1 → HasReady before a job captures targets feed → lawful.IsCutShort (function_of job.func.now) (asked job).card (asked job).format feed a.told b.told targets → KeepsBut targets a.told b.told
    → IsStopCause {T = Unit {0}} a.counted b.counted (Err stop) → StopsAmong {T = Unit {0}} captures targets (Err stop) → IsStopped Refused (asked job) before b (stop_named (run_numbering before.told.next (ports_of job)) stop)
one_halted Refused before a b job captures targets feed stop is alone h cut kept cause among =
    let some = cut.lawful h.fed.old.told (ready_stands before a job captures targets feed h) in
    halted_at before a b job captures targets feed stop (packets some.run) some.run is h (lone_of Refused before h.created.old job captures feed some.run is alone h.fed some.is_run) kept some.fronts cause among

-- by several workers that share nothing
pub shards_finished : (Refused : Type 0) (before a b : Outside) (job : Job) (captures targets : List ℕ) (feed next : Feeding) (keys : Keys) (ran : Ran) → IsJob before.told job → IsWorkerPlan (asked job) (function_of job.func.now) (worker_plan.Shards keys) → HasReady before a job captures targets feed
    → shards.IsFinished (function_of job.func.now) keys (asked job).workers (asked job).card (asked job).format feed a.told next b.told targets ran → KeepsBut targets a.told b.told → b.counted ≡ a.counted
    → HasRun Refused before b job Shard ran.packets ran.state (end_of (asked job).most ran.ending (first_tear 0 (tears_in next.sources)))
shards_finished Refused before a b job captures targets feed next keys ran is several h fin kept counted =
    let stands = ready_stands before a job captures targets feed h in
    let first = first_taken feed.most (packets_of (sixes_in feed.sources) (files_in feed.sources) h.fed.old.told) (map arrival_in fin.run.turns) (fin.packets h.fed.old.told stands) in
    handled before a b job captures targets feed Shard ran.packets ran.state _ (packets fin.run) fin.run is h
    (several_of Refused before h.created.old job captures feed (shard_rule keys (asked job).workers) (packets fin.run) fin.run is several.0.0 (shards_due Refused job keys several) h.fed fin.is_run (omega (arith, length-map fin.run.turns arrival_in, fin.within)) first) fin.is_run.function fin.is_run.mode fin.is_run.workers
    (ends_as before h.created.old job captures feed next ran.ending (packets fin.run) fin.run fin.is_run.function h.fed fin.same_files fin.same_six fin.same_most (fin.ending h.fed.old.told stands)) fin.count fin.left.0 fin.left.1 kept counted fin.wholes

-- the share stop was met
pub shards_full : (Refused : Type 0) (before a b : Outside) (job : Job) (captures targets : List ℕ) (feed : Feeding) (keys : Keys) (full : Full) (said : FullShare) → IsToldStop (function_of job.func.now) full.stop said → IsJob before.told job → IsWorkerPlan (asked job) (function_of job.func.now) (worker_plan.Shards keys) → HasReady before a job captures targets feed
    → (fin : shards.IsFull (function_of job.func.now) keys (asked job).workers (asked job).card (asked job).format feed a.told b.told targets full) → KeepsBut targets a.told b.told → b.counted ≡ a.counted
    → HasRun Refused before b job Shard full.packets fin.stops.state (ShareFull said)
shards_full Refused before a b job captures targets feed keys full said told is several h fin kept counted =
    let c = asked job in
    let all = packets_of (sixes_in feed.sources) (files_in feed.sources) h.fed.old.told in
    let next = fin.packets h.fed.old.told (ready_stands before a job captures targets feed h) in
    let run = fin.run in
    let f = fin.is_run.function in
    handled before a b job captures targets feed Shard full.packets fin.stops.state (ShareFull said) (packets run) run is h
    (several_of Refused before h.created.old job captures feed (shard_rule keys c.workers) (packets run) run is several.0.0 (shards_due Refused job keys several) h.fed fin.is_run (omega (arith, length-map run.turns arrival_in, fin.within)) (first_before all (map arrival_in run.turns) full.stop next)) f fin.is_run.mode fin.is_run.workers (
      fin.is_run.mode,
      record {
        keys = keys;
        given = subst (λ (g : Function). AreGiven g c.card keys) (sym f) several.2;
        stop = full.stop;
        behind = subst (λ (g : Function). IsStopBehind g keys c.workers run full.stop) (sym f) fin.stops;
        next = subst (λ (ps : Option (List Arrival)). AreBefore ps (map arrival_in run.turns) full.stop.packet) (packets_fed run.function feed h.fed f refl refl) next;
        less = subst (λ (m : ℕ). length run.turns < m) h.fed.fresh.most fin.within;
        said = subst (λ (g : Function). IsToldStop g full.stop said) (sym f) told;
      },
    )
    fin.count fin.stops.answers fin.stops.ran kept counted fin.wholes

pub shards_halted : (Refused : Type 0) (before a b : Outside) (job : Job) (captures targets : List ℕ) (feed : Feeding) (keys : Keys) (stop : RunFault) → IsJob before.told job → IsWorkerPlan (asked job) (function_of job.func.now) (worker_plan.Shards keys) → HasReady before a job captures targets feed
    → shards.IsCutShort (function_of job.func.now) keys (asked job).workers (asked job).card (asked job).format feed a.told b.told targets → KeepsBut targets a.told b.told → IsStopCause {T = Unit {0}} a.counted b.counted (Err stop) → StopsAmong {T = Unit {0}} captures targets (Err stop) → IsStopped Refused (asked job) before b (stop_named (run_numbering before.told.next (ports_of job)) stop)
shards_halted Refused before a b job captures targets feed keys stop is several h cut kept cause among =
    let first = cut.packets h.fed.old.told (ready_stands before a job captures targets feed h) in
    halted_at before a b job captures targets feed stop (packets cut.run) cut.run is h (several_of Refused before h.created.old job captures feed (shard_rule keys (asked job).workers) (packets cut.run) cut.run is several.0.0 (shards_due Refused job keys several) h.fed cut.is_run (omega (arith, length-map cut.run.turns arrival_in, cut.within)) first) kept cut.fronts cause among

-- by several workers that share the tables
pub tables_finished : (Refused : Type 0) (before a b : Outside) (job : Job) (captures targets : List ℕ) (feed next : Feeding) (came : LockedResult) → IsJob before.told job → IsWorkerPlan (asked job) (function_of job.func.now) worker_plan.Tables → HasReady before a job captures targets feed
    → tables.IsFinished (function_of job.func.now) (asked job).workers (asked job).card (asked job).format Refused feed a.told next b.told targets came → KeepsBut targets a.told b.told → b.counted ≡ a.counted
    → HasRun Refused before b job came.mode came.ran.packets came.ran.state (end_of (asked job).most came.ran.ending (first_tear 0 (tears_in next.sources)))
tables_finished Refused before a b job captures targets feed next came is several h fin kept counted =
    let stands = ready_stands before a job captures targets feed h in
    let first = first_taken feed.most (packets_of (sixes_in feed.sources) (files_in feed.sources) h.fed.old.told) fin.given (fin.packets h.fed.old.told stands) in
    let of = fin.is_run.function in
    handled before a b job captures targets feed came.mode came.ran.packets came.ran.state _ fin.given fin.run is h
    (several_of Refused before h.created.old job captures feed fin.rule fin.given fin.run is several.0 (tables_due Refused job fin.rule several fin.due) h.fed fin.is_run fin.within first) of (fin.is_run.mode ∙ sym fin.mode_is) (fin.is_run.workers ∙ counted_by (asked job).workers Refused fin.rule fin.due)
    (ends_as before h.created.old job captures feed next came.ran.ending fin.given fin.run of h.fed fin.same_files fin.same_six fin.same_most (fin.ending h.fed.old.told stands)) fin.count fin.left.0 fin.left.1 kept counted fin.wholes

pub tables_halted : (Refused : Type 0) (before a b : Outside) (job : Job) (captures targets : List ℕ) (feed : Feeding) (stop : RunFault) → IsJob before.told job → IsWorkerPlan (asked job) (function_of job.func.now) worker_plan.Tables → HasReady before a job captures targets feed
    → tables.IsCutShort (function_of job.func.now) (asked job).workers (asked job).card (asked job).format Refused feed a.told b.told targets → KeepsBut targets a.told b.told → IsStopCause {T = Unit {0}} a.counted b.counted (Err stop) → StopsAmong {T = Unit {0}} captures targets (Err stop) → IsStopped Refused (asked job) before b (stop_named (run_numbering before.told.next (ports_of job)) stop)
tables_halted Refused before a b job captures targets feed stop is several h cut kept cause among =
    let first = cut.packets h.fed.old.told (ready_stands before a job captures targets feed h) in
    halted_at before a b job captures targets feed stop cut.given cut.run is h (several_of Refused before h.created.old job captures feed cut.rule cut.given cut.run is several.0 (tables_due Refused job cut.rule several cut.due) h.fed cut.is_run cut.within first) kept cut.fronts cause among

-- ---- what a run is given

pub has_captures : (before now : Outside) (job : Job) (captures targets : List ℕ) (feed : Feeding) → IsJob before.told job → HasReady before now job captures targets feed → EachFile (IsRead now.told) captures → HasCaptures job.func.now captures feed now.told
has_captures before now job captures targets feed is ready opened = record {
  reads = record { files = ready.fed.fresh.files; opened = opened };
  six = ready.fed.fresh.six;
  ports = ready.fed.opened.all ∙ sym is.ports ∙ sym is.handlers;
}

pub has_targets : (before now : Outside) (job : Job) (captures targets : List ℕ) (feed : Feeding) → IsJob before.told job → HasReady before now job captures targets feed → EachFile (IsWritten now.told) targets → HasTargets job.func.now targets now.told
has_targets before now job captures targets feed is ready created =
    let made = ready.created.created in
    record {
      writable = record { created = created; apart = λ i j f k p q ne e. ne (omega (arith, made.numbers i f p, made.numbers j k q, e)) };
      as_many = made.all ∙ ap (λ (n : ℕ). n + 1) (sym is.ports ∙ sym is.handlers);
      few = omega (arith, made.all, is.ports, is.few);
      empty = targets_empty ready.created;
    }
