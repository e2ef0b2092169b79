-- A run over made-up traffic, by the workers that a command asks for.
use Rattle.std.proofs.Common.{◌≡◌, inl, inr, ℕ, ◌+◌, List, [], ◌∷◌, length, map, get_or, slice_get, Some, Err, refl, ap, sym, subst, ◌∙◌, arith}
use Rattle.std.proofs.lemmas.Option.{slice_get-get_or}
use Rattle.nf_base.specs.Functions.{function_of}
use Rattle.nf_base.specs.Text.{Function}
use Rattle.nf_base.specs.declared.state.State.{State}
use Rattle.packet_feed.specs.Arrivals.{Arrival}
use Rattle.run_history.specs.declared.line.Mode.{Mode}
use Rattle.stream_run.specs.Runs.{Run, arrival_in}
use Rattle.stream_run.specs.Rules.{Rule, lone_rule, shard_rule, lock_rule, IsRunBy}
use Rattle.stream_run.specs.Writing.{IsStopCause, StopsAmong, KeepsBut}
use Rattle.stream_run.specs.declared.fault.RunFault.{RunFault}
use Rattle.key_synth.specs.Keys.{AreGiven}
use Rattle.sharded_run.specs.Sharded.{IsStopBehind}
use Rattle.sharded_run.specs.declared.result.ShareFull.{ShareFull as Full}
use Rattle.traffic_run.specs.declared.worker_plan.WorkerPlan.{WorkerPlan}
use Rattle.traffic_run.specs.declared.worker_plan.WorkerPlan.TheVariants as whos
use Rattle.traffic_run.specs.TrafficSpecs.{asked_for}
use Rattle.traffic_run.specs.Runs as traffic
use Rattle.traffic_run.specs.Runs.{IsDue}
use Rattle.traffic_run.proofs.Sending.{function_by}
use Rattle.command_words.specs.Commands.{Gen}
use Rattle.command_words.specs.declared.command.ModeChoice.{ModeChoice}
use Rattle.command_words.specs.declared.command.ModeChoice.TheVariants as choice
use Rattle.call_base.specs.declared.status.End.TheVariants.{ShareFull}
use Rattle.call_base.specs.declared.status.FullShare.{FullShare}
use Rattle.call_base.specs.Layout.{stop_named}
use Rattle.call_base.specs.Leaving.{HasCreated, HasMade}
use Rattle.call_base.specs.Named.{IsToldStop}
use Rattle.call_base.specs.Names.{name_at, reading, created_by}
use Rattle.call_base.specs.Opened.{AreSomeCreated, AsksSome}
use Rattle.call_base.specs.Outside.{Outside, HasOnlyAsked}
use Rattle.call_base.specs.Rules.{HasKeys, ShareTables, IsRuleOf, by_one, by_shards, by_tables, by_none}
use Rattle.call_base.specs.Source.{IsFunctionUnder}
use Rattle.call_base.proofs.Ending.{targets_from, has_made, broken_running, broken_creating}
use Rattle.gen_call.specs.declared.job.Job.{Job}
use Rattle.gen_call.specs.Numbers.{made_numbering}
use Rattle.gen_call.specs.Runs.{traffic_of, packets_for, IsWorkerPlan, IsRunOf}
use Rattle.gen_call.specs.Ending.{IsFinished, IsStopped}
use Rattle.gen_call.specs.Progress.{Since, HasRefused, IsJob, HasDone, asked, leaves_of}
use Rattle.gen_call.proofs.Finishing.{handlers_of, ports_are, are_of, cut_short}
use Rattle.traffic_run.proofs.Over.{none_by}

-- the packets that are asked for, at the ports of the function that the code holds
abbrev pub all_of : Job → List Arrival
all_of job = asked_for (traffic_of (asked job)) (length job.func.now.handlers)

packets_as : (job : Job) (f : Function) → f ≡ function_of job.func.now → all_of job ≡ packets_for (asked job) f
packets_as job f e = ap (asked_for (traffic_of (asked job))) (sym (ap (λ (g : Function). length g.handlers) e ∙ handlers_of job))

-- the rule that is due of who handles the packets
rule_by : (c : Gen) (f : Function) (Refused : Type 0) (worker_plan : WorkerPlan) (rule : Rule) → IsWorkerPlan c f worker_plan → IsDue worker_plan Refused rule → IsRuleOf Refused c.mode c.workers c.card f rule
rule_by c f Refused whos.One rule by e = by_one by.0 e
rule_by c f Refused (whos.Shards keys workers) rule by e = by_shards keys (omega (arith, by.0, by.1)) by.2 by.3 (e ∙ ap (shard_rule keys) by.0)
rule_by c f Refused (whos.Sharing workers) rule by (inl e) = by_tables (omega (arith, by.0, by.1)) by.2 (e ∙ ap lock_rule by.0)
rule_by c f Refused (whos.Sharing workers) rule by (inr e) = by_none (omega (arith, by.0, by.1)) by.2 e.0 (e.1 ∙ ap lone_rule by.0)

-- a function has keys where mode `shard` is asked for
keyed_by : (c : Gen) (f : Function) (worker_plan : WorkerPlan) → IsWorkerPlan c f worker_plan → c.mode ≡ choice.Shard → HasKeys f c.card
keyed_by c f whos.One by e = by.1 e
keyed_by c f (whos.Shards keys workers) by e = record { keys = keys; given = by.3 }
keyed_by c f (whos.Sharing workers) by e = absurd (subst (λ (m : ModeChoice). ShareTables m c.card f) e by.2)

run_is : (before : Outside) (job : Job) (worker_plan : WorkerPlan) (Refused : Type 0) (given : List Arrival) (r : Run) → IsJob before job → IsWorkerPlan (asked job) (function_of job.func.now) worker_plan → traffic.IsRunOf worker_plan (asked job).card Refused (function_of job.func.now) given r → IsRunOf (asked job) Refused before.told given r
run_is before job worker_plan Refused given r is by h =
    let c = asked job in
    let f = function_of job.func.now in
    let e = sym h.is_run.function in
    record {
      is_function = subst (IsFunctionUnder before.told c.function) e is.is_function;
      keyed = subst (λ (g : Function). c.mode ≡ choice.Shard → HasKeys g c.card) e (keyed_by c f worker_plan by);
      rule = h.rule;
      due = subst (λ (g : Function). IsRuleOf Refused c.mode c.workers c.card g h.rule) e (rule_by c f Refused worker_plan h.rule by h.due);
      is_run = subst (λ (g : Function). IsRunBy h.rule g c.card given r) e h.is_run;
    }

-- the first target has the number behind the text's
pub first_is : (before a : Outside) (job : Job) (targets : List ℕ) → HasCreated (leaves_of (asked job) before job.layout.ports) before a targets → get_or targets 0 0 ≡ before.told.next + 1
first_is before a job targets h =
    let at = slice_get-get_or targets 0 0 (omega (arith, h.created.all)) in
    omega (arith, (targets_from h 0 (get_or targets 0 0) at).0)

-- so the number of each target is that of the first and its place
pub numbers_are : (before a : Outside) (job : Job) (targets : List ℕ) → HasCreated (leaves_of (asked job) before job.layout.ports) before a targets → (k file : ℕ) → slice_get targets k ≡ Some file → file ≡ get_or targets 0 0 + k
numbers_are before a job targets h k file at = omega (arith, (targets_from h k file at).0, first_is before a job targets h)

-- all packets were handled
pub done : (since : Since) (a b : Outside) (job : Job) (targets : List ℕ) (worker_plan : WorkerPlan) (all : List Arrival) (first : ℕ) (m : Mode) (state : State) (sent : ℕ) → IsJob since.before job → HasCreated (leaves_of (asked job) since.before job.layout.ports) since.before a targets → IsWorkerPlan (asked job) (function_of job.func.now) worker_plan
    → all ≡ all_of job → first ≡ since.before.told.next + 1 → traffic.IsFinished worker_plan (asked job).card (asked job).format (HasRefused since) (function_of job.func.now) all b.told targets first m state sent → KeepsBut targets a.told b.told → b.counted ≡ a.counted → HasDone since b job m state sent
done since a b job targets worker_plan all first m state sent is h by all_is first_at k kept counted =
    let c = asked job in
    let w = k.whole in
    let f = function_by worker_plan c.card (HasRefused since) (function_of job.func.now) all w.run w.is_run in
    record {
      run = w.run;
      is_run = subst (λ (ps : List Arrival). IsRunOf c (HasRefused since) since.before.told ps w.run) (all_is ∙ packets_as job w.run.function f) (run_is since.before job worker_plan (HasRefused since) all w.run is by w.is_run);
      of_function = f;
      made = has_made (leaves_of c since.before job.layout.ports) since.before a b targets w.run (are_of since.before job w.run is f) h kept counted w.wholes;
      mode_is = w.mode_is;
      left = w.left;
      sent_is = subst (λ (n : ℕ). traffic.IsSent b.told n w.run sent) first_at k.sent_is;
    }

-- the share stop was met
pub share_full : (since : Since) (a b : Outside) (job : Job) (targets : List ℕ) (worker_plan : WorkerPlan) (all : List Arrival) (full : Full) (said : FullShare) → IsToldStop (function_of job.func.now) full.stop said → IsJob since.before job → HasCreated (leaves_of (asked job) since.before job.layout.ports) since.before a targets → IsWorkerPlan (asked job) (function_of job.func.now) worker_plan
    → all ≡ all_of job → traffic.IsFull worker_plan (asked job).card (asked job).format (function_of job.func.now) all b.told targets full → KeepsBut targets a.told b.told → b.counted ≡ a.counted → IsFinished (asked job) (HasRefused since) since.before b (ShareFull said)
share_full since a b job targets whos.One all full said told is h by all_is k kept counted = absurd k
share_full since a b job targets (whos.Sharing workers) all full said told is h by all_is k kept counted = absurd k
share_full since a b job targets (whos.Shards keys workers) all full said told is h by all_is k kept counted =
    let c = asked job in
    let f = k.is_run.function in
    let worker_plan = whos.Shards keys workers in
    let given = map arrival_in k.run.turns in
    let e = sym f in
    let made = subst (λ (n : ℕ). HasMade (leaves_of c since.before n) since.before b k.run (n + 1) (n + 1)) (sym (ports_are since.before job k.run is f))
    (has_made (leaves_of c since.before job.layout.ports) since.before a b targets k.run (are_of since.before job k.run is f) h kept counted k.wholes) in
    record {
      run = k.run;
      given = given;
      is_run = run_is since.before job worker_plan (HasRefused since) given k.run is by (record { rule = shard_rule keys workers; due = refl; is_run = k.is_run });
      ending = (
        k.is_run.mode,
        record {
          keys = keys;
          are_given = subst (λ (g : Function). AreGiven g c.card keys) e by.3;
          several = omega (arith, by.0, by.1);
          stop = full.stop;
          behind = subst (λ (w : ℕ). IsStopBehind k.run.function keys w k.run full.stop) by.0 (subst (λ (g : Function). IsStopBehind g keys workers k.run full.stop) e k.stops);
          next = subst (λ (ps : List Arrival). traffic.AreBefore ps given full.stop.packet) (all_is ∙ packets_as job k.run.function f) k.packets;
          said = subst (λ (g : Function). IsToldStop g full.stop said) e told;
        },
      );
      files = made.files;
      stdout = made.stdout;
      stderr = made.stderr;
      asked = made.asked_for;
    }

-- the run was stopped
pub cut : (since : Since) (a b : Outside) (job : Job) (targets : List ℕ) (worker_plan : WorkerPlan) (all : List Arrival) (stop : RunFault) → IsJob since.before job → HasCreated (leaves_of (asked job) since.before job.layout.ports) since.before a targets → IsWorkerPlan (asked job) (function_of job.func.now) worker_plan → all ≡ all_of job
    → (k : traffic.IsCutShort worker_plan (asked job).card (asked job).format (HasRefused since) (function_of job.func.now) all b.told targets) → KeepsBut targets a.told b.told → IsStopCause {T = Unit {0}} a.counted b.counted (Err stop) → StopsAmong {T = Unit {0}} [] targets (Err stop)
    → IsStopped (asked job) (HasRefused since) since.before b (stop_named (made_numbering since.before.told.next job.layout.ports) stop)
cut since a b job targets worker_plan all stop is h by all_is k kept cause among =
    let c = asked job in
    let f = function_by worker_plan c.card (HasRefused since) (function_of job.func.now) k.given k.run k.is_run in
    cut_short since b job k.given k.run _ is f (run_is since.before job worker_plan (HasRefused since) k.given k.run is by k.is_run) (k.first.0, sym (all_is ∙ packets_as job k.run.function f) ∙ k.first.1)
    (broken_running (leaves_of c since.before job.layout.ports) _ _ _ since.before a b [] targets k.run stop (are_of since.before job k.run is f) h (λ i n e. absurd (cc e)) kept k.fronts cause among)

-- not all files could be created
pub uncreated : (since : Since) (a b : Outside) (job : Job) (worker_plan : WorkerPlan) (stop : RunFault) → IsJob since.before job → a.told.next ≡ since.before.told.next + 1 → HasOnlyAsked (reading (asked job).function ∷ []) since.before a → IsWorkerPlan (asked job) (function_of job.func.now) worker_plan
    → AreSomeCreated a.told b.told (name_at (asked job).format (asked job).out job.layout.ports) (job.layout.ports + 1) stop → AsksSome (created_by (asked job).format (asked job).out job.layout.ports (job.layout.ports + 1)) a.counted b.counted stop
    → IsStopped (asked job) (HasRefused since) since.before b (stop_named (made_numbering since.before.told.next job.layout.ports) stop)
uncreated since a b job worker_plan stop is at only by some asks =
    let c = asked job in
    let none = none_by worker_plan c.card c.format (HasRefused since) (function_of job.func.now) (all_of job) b.told [] (λ k file e. absurd (cc e)) in
    let f = function_by worker_plan c.card (HasRefused since) (function_of job.func.now) none.given none.run none.is_run in
    cut_short since b job none.given none.run _ is f (run_is since.before job worker_plan (HasRefused since) none.given none.run is by none.is_run) (none.first.0, sym (packets_as job none.run.function f) ∙ none.first.1)
    (broken_creating (leaves_of c since.before job.layout.ports) _ _ _ since.before a b none.run stop (are_of since.before job none.run is f) at only some asks)
