-- A run that was refused or stopped before it created anything.
use Rattle.std.proofs.Common.{◌≡◌, inl, inr, ℕ, ◌+◌, ◌≤◌, length, map, Ok, Err, refl, ap, sym, subst, ◌∙◌, arith}
use Rattle.nf_base.specs.Functions.{function_of}
use Rattle.nf_base.specs.Text.{Function}
use Rattle.nf_files.specs.Told.{Told}
use Rattle.nf_files.specs.Causes.{Counted}
use Rattle.stream_run.specs.declared.fault.RunFault.{RunFault}
use Rattle.command_words.specs.Commands.{Run as RunAsked}
use Rattle.command_words.specs.declared.command.ModeChoice.{ModeChoice}
use Rattle.call_base.specs.declared.layout.FileOrder.{FileOrder}
use Rattle.call_base.specs.declared.layout.FileOrder.TheVariants.{Created}
use Rattle.call_base.specs.declared.loading.Found.{Found}
use Rattle.call_base.specs.declared.loading.NoFunction.{NoFunction}
use Rattle.call_base.specs.declared.loading.NoFunction.TheVariants as none
use Rattle.call_base.specs.declared.status.RunFile.TheVariants.{Nf, Capture, Journal, Output, OutJournal, State, Proof, Stdout, Stderr}
use Rattle.call_base.specs.declared.status.CallFault.{CallFault}
use Rattle.call_base.specs.declared.status.CallFault.TheVariants as stops
use Rattle.call_base.specs.declared.status.Halt.{Halt}
use Rattle.call_base.specs.declared.status.Halt.TheVariants as halts
use Rattle.call_base.specs.declared.status.Refusal.TheVariants as refusals
use Rattle.call_base.specs.Layout as layout
use Rattle.call_base.specs.Layout.{numbering_of, run_numbering, stop_named}
use Rattle.call_base.specs.Loading.{FindsFunction, HasFoundCause}
use Rattle.call_base.specs.Names.{inputs_of}
use Rattle.call_base.specs.Numbers.{Numbering}
use Rattle.call_base.specs.Outside.{Outside, IsUntouched}
use Rattle.call_base.specs.Reading.{HasFound, IsReadCause, IsUnread, ReadsTo, halt_of}
use Rattle.call_base.proofs.Asking.{front_all}
use Rattle.call_base.proofs.Reading.{IsUnfound, has_found, is_unfound, is_starved, read_stops}
use Rattle.run_call.specs.declared.worker_plan.WorkerPlan.{WorkerPlan}
use Rattle.run_call.specs.declared.worker_plan.WorkerPlan.TheVariants as worker_plan
use Rattle.run_call.specs.declared.job.Job.{Job}
use Rattle.call_base.specs.Rules.{HasKeys, ShareTables}
use Rattle.run_call.specs.Modes.{NeedsKeys, IsWorkerPlan, Serves}
use Rattle.run_call.specs.Runs.{HasPorts}
use Rattle.run_call.specs.Ending.{KnownAt, IsKnown, IsUnbegun, IsStopped, RunsTo}
use Rattle.run_call.specs.Progress.{IsJob, asked, ports_of, reads_of}

-- a stop, by the numbers of a job
pub halted : {Refused : Type 0} (before b : Outside) (job : Job) (stop : RunFault) (halt : Halt) → IsJob before.told job → halt ≡ halts.Stop (stop_named (numbering_of job.layout) stop) → IsStopped Refused (asked job) before b (stop_named (run_numbering before.told.next (ports_of job)) stop) → RunsTo Refused (asked job) before b (Err halt)
halted {Refused = Refused} before b job stop halt is e h =
    let l = job.layout in
    let same : numbering_of l ≡ run_numbering before.told.next (ports_of job) =
    ap (λ (k : FileOrder). layout.numbering k l.first l.captures l.ports) is.behind
    ∙ ap (λ (n : ℕ). layout.numbering Created n l.captures l.ports) is.first
    ∙ ap (λ (n : ℕ). layout.numbering Created before.told.next n l.ports) is.captures
    ∙ ap (λ (n : ℕ). layout.numbering Created before.told.next n n) is.ports in
    subst (λ (x : Halt). RunsTo Refused (asked job) before b (Err x)) (sym (e ∙ ap (λ (n : Numbering). halts.Stop (stop_named n stop)) same)) h

-- ---- the text and the captures

unread_known : (c : RunAsked) (before now : Told) (old new : Counted) (stop : CallFault) → ((port : ℕ) → stop ≡ stops.File (Capture port) → (f : Function) × HasPorts c before f) → IsReadCause (reads_of c) before now old new stop → IsKnown c before now stop
unread_known c before now old new (stops.File Nf) ports h = tt
unread_known c before now old new (stops.File (Capture port)) ports h =
    let known = ports port refl in
    record { function = known.0; has_ports = known.1; lesser = λ next. h.lesser (omega (arith, next)) }
unread_known c before now old new (stops.File Journal) ports h = absurd h
unread_known c before now old new (stops.File (Output port)) ports h = absurd h
unread_known c before now old new (stops.File OutJournal) ports h = absurd h
unread_known c before now old new (stops.File State) ports h = absurd h
unread_known c before now old new (stops.File Proof) ports h = absurd h
unread_known c before now old new (stops.File Stdout) ports h = absurd h
unread_known c before now old new (stops.File Stderr) ports h = absurd h
unread_known c before now old new stops.Memory ports h = tt

unbegun : (c : RunAsked) (before b : Outside) (stop : CallFault) → ((port : ℕ) → stop ≡ stops.File (Capture port) → (f : Function) × HasPorts c before.told f) → IsUnread (reads_of c) before b stop → IsUnbegun c before b stop
unbegun c before b stop ports h = record {
  known = unread_known c before.told b.told _ b.counted stop ports h.cause;
  untouched = h.untouched;
  stops = read_stops (reads_of c) before b Created (length c.captures) (inputs_of c) stop (front_all (inputs_of c)) h;
}

unbegun_text : (c : RunAsked) (before b : Outside) (stop : CallFault) → IsUnfound (reads_of c) before b stop → IsUnbegun c before b stop
unbegun_text c before b stop h = unbegun c before b stop (λ port e. absurd (h.no_capture port e)) h.unread

unfound : (Refused : Type 0) (c : RunAsked) (before b : Outside) (why : NoFunction) → IsUntouched before.told b.told → FindsFunction before.told c.function (Err why) → HasFoundCause c.function before.told.next before.counted b.counted (Err why) → RunsTo Refused c before b (Err (halt_of why))
unfound Refused c before b (none.Text fault) untouched finds cause = (finds, record { untouched = untouched; asked = cause })
unfound Refused c before b (none.Stop stop) untouched finds cause = inl (unbegun_text c before b stop (is_unfound (reads_of c) before b stop untouched cause))

-- the same, since a moment
pub none_since : (Refused : Type 0) (c : RunAsked) (a before now : Outside) (why : NoFunction) (halt : Halt) → a ≡ before → halt ≡ halt_of why → IsUntouched a.told now.told → FindsFunction a.told c.function (Err why) → HasFoundCause c.function a.told.next a.counted now.counted (Err why) → RunsTo Refused c before now (Err halt)
none_since Refused c a before now why halt same is untouched finds cause =
    subst (λ (h : Halt). RunsTo Refused c before now (Err h)) (sym is) (subst (λ (o : Outside). RunsTo Refused c o now (Err (halt_of why))) same (unfound Refused c a now why untouched finds cause))

-- captures were not read
pub unfed : (Refused : Type 0) (before b : Outside) (job : Job) (halt : Halt) → IsJob before.told job → ReadsTo (reads_of (asked job)) (function_of job.func.now) before b (Err halt) → RunsTo Refused (asked job) before b (Err halt)
unfed Refused before b job (halts.Refusal (refusals.NotCapture port)) is h =
    (record { function = function_of job.func.now; has_ports = is.has_ports; name = h.0.name; at = h.0.at; none = h.0.none; lesser = h.0.lesser }, h.1)
unfed Refused before b job (halts.Refusal refusals.Usage) is h = absurd h
unfed Refused before b job (halts.Refusal (refusals.Text fault)) is h = absurd h
unfed Refused before b job (halts.Refusal (refusals.NoKeys why)) is h = absurd h
unfed Refused before b job (halts.Stop stop) is h = inl (unbegun (asked job) before b stop (λ port e. (function_of job.func.now, is.has_ports)) h)

-- ---- who handles the packets

-- a function has keys where they are needed
pub keyed_by : (c : RunAsked) (f : Function) (worker_plan : WorkerPlan) → IsWorkerPlan c f worker_plan → NeedsKeys c → HasKeys f c.card
keyed_by c f worker_plan.One is needs = is.1 needs
keyed_by c f (worker_plan.Shards keys) is needs = record { keys = keys; given = is.2 }
keyed_by c f worker_plan.Tables is needs = absurd (subst (λ (m : ModeChoice). ShareTables m c.card f) needs is.1)

-- the function has no keys, and they are needed; or memory ran out
pub is_unserved : (Refused : Type 0) (c : RunAsked) (before now : Outside) (found : Found) (halt : Halt) → HasFound c.function before now found → length c.captures ≡ length (function_of found.source.func).handlers → Serves c (function_of found.source.func) (Err halt) → RunsTo Refused c before now (Err halt)
is_unserved Refused c before now found (halts.Refusal (refusals.NoKeys why)) h as_many is =
    (record { function = function_of found.source.func; is_function = h.is_function; as_many = as_many; needs = is.0; locked = is.1 }, h.only)
is_unserved Refused c before now found (halts.Refusal refusals.Usage) h as_many is = absurd is
is_unserved Refused c before now found (halts.Refusal (refusals.Text fault)) h as_many is = absurd is
is_unserved Refused c before now found (halts.Refusal (refusals.NotCapture port)) h as_many is = absurd is
is_unserved Refused c before now found (halts.Stop (stops.File file)) h as_many is = absurd is
is_unserved Refused c before now found (halts.Stop stops.Memory) h as_many is = inl (unbegun_text c before now stops.Memory (is_starved (reads_of c) before now h.only))
