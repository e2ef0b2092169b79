-- A replay that was refused or stopped before anything was judged.
use Rattle.std.proofs.Common.{◌≡◌, inl, inr, ℕ, ◌+◌, ◌-◌, ◌<◌, ◌≤◌, List, [], ◌∷◌, ◌++◌, length, map, Err, refl, ap, sym, subst, ◌∙◌, arith}
use Rattle.std.proofs.lemmas.List.{length-map}
use Rattle.std.proofs.lemmas.Bool.{cases_eq}
use Rattle.nf_base.specs.Functions.{function_of}
use Rattle.nf_files.specs.Told.{Told}
use Rattle.nf_files.specs.Causes.{Counted, Asked, asking}
use Rattle.packet_feed.specs.Told.{IsCapture}
use Rattle.packet_feed.specs.Feeding.{Feeding}
use Rattle.stream_run.specs.declared.fault.RunFault.{RunFault}
use Rattle.stream_run.specs.declared.fault.RunFault.TheVariants as numbered
use Rattle.command_words.specs.Commands.{Replay}
use Rattle.call_base.specs.declared.layout.FileOrder.{FileOrder}
use Rattle.call_base.specs.declared.layout.FileOrder.TheVariants.{Read}
use Rattle.call_base.specs.declared.loading.NoFunction.{NoFunction}
use Rattle.call_base.specs.declared.loading.NoFunction.TheVariants as none
use Rattle.call_base.specs.declared.status.RunFile.{RunFile}
use Rattle.call_base.specs.declared.status.RunFile.TheVariants.{Nf, Capture, Journal, Output, OutJournal, State, Proof, Stdout, Stderr}
use Rattle.call_base.specs.declared.status.Refusal.TheVariants as refusals
use Rattle.call_base.specs.declared.status.CallFault.{CallFault}
use Rattle.call_base.specs.declared.status.CallFault.TheVariants as stops
use Rattle.call_base.specs.declared.status.Halt.{Halt}
use Rattle.call_base.specs.declared.status.Halt.TheVariants as halts
use Rattle.call_base.specs.Captures.{Below}
use Rattle.call_base.specs.Outside.{Outside, IsUntouched, HasOnlyAsked}
use Rattle.call_base.specs.Names.{reading}
use Rattle.call_base.specs.Numbers.{Numbering, StopsBy, IsFrontOf}
use Rattle.call_base.specs.Layout as layout
use Rattle.call_base.specs.Layout.{file_of, file_behind, numbering_of, stop_named}
use Rattle.call_base.specs.Reading.{IsReadCause, IsUnread, ReadsTo, halt_of}
use Rattle.call_base.specs.Opened.{AsksSome, StopsFrom}
use Rattle.call_base.specs.Loading.{FindsFunction, HasFoundCause}
use Rattle.call_base.proofs.Asking.{front_all, front_before, front_behind}
use Rattle.call_base.proofs.Creating.{untouched_both}
use Rattle.call_base.proofs.Layouts.{IsNumbered, file_capture, file_other, read_journal, read_output, own_read}
use Rattle.call_base.proofs.Reading.{is_unfound, read_stops, fed_only, all_captures}
use Rattle.call_base.proofs.Stops.{memory_behind, stopped_asking, front_length}
use Rattle.replay_call.specs.declared.job.Job.{Job}
use Rattle.replay_call.specs.Numbers.{numbering}
use Rattle.replay_call.specs.Names.{inputs_of, names_of, asked_by}
use Rattle.replay_call.specs.ReplayEnd.{KnowsPorts, KnowsHeaders, KnownAt, IsKnown, IsDue, IsStopped, ReplaysTo}
use Rattle.replay_call.specs.Progress.{IsJob, IsSized, HasFed, asked, ports_of, reads_of}

inputs_front : (c : Replay) → IsFrontOf (asked_by c) (inputs_of c)
inputs_front c = front_before (inputs_of c) (map reading (names_of c)) (inputs_of c) (front_all (inputs_of c))

-- a stop that changed nothing
pub stopped_untouched : (c : Replay) (before b : Outside) (stop : CallFault) → IsUntouched before.told b.told → (s : StopsBy (numbering before.told.next (length c.captures)) (asked_by c) before.counted b.counted stop) → IsKnown c before.told b.told stop → IsDue c before.told (length s.front) → IsStopped c before b stop
stopped_untouched c before b stop untouched stops_at known due = record {
  contents = untouched.contents;
  stdout = inl (untouched.standard 0 (omega arith));
  stderr = untouched.standard 1 (omega arith);
  stops = stops_at;
  known = known;
  due = due;
}

-- a job's numbers are those of the openings
pub numbers_are : (before : Outside) (job : Job) → IsJob before job → IsSized job → numbering_of job.layout ≡ numbering before.told.next (ports_of job)
numbers_are before job is sized =
    let l = job.layout in
    let ports : l.ports ≡ ports_of job = sym (length-map job.command.now.captures.items _ ∙ sized.captures) in
    ap (λ (b : FileOrder). layout.numbering b l.first l.captures l.ports) sized.behind
    ∙ ap (λ (n : ℕ). layout.numbering Read n l.captures l.ports) is.first
    ∙ ap (λ (n : ℕ). layout.numbering Read before.told.next n l.ports) sized.opened
    ∙ ap (λ (n : ℕ). layout.numbering Read before.told.next n n) ports

pub halted : (before b : Outside) (job : Job) (stop : RunFault) (halt : Halt) → IsJob before job → IsSized job → halt ≡ halts.Stop (stop_named (numbering_of job.layout) stop) → IsStopped (asked job) before b (stop_named (numbering before.told.next (ports_of job)) stop) → ReplaysTo (asked job) before b (Err halt)
halted before b job stop halt is sized same h =
    subst (λ (x : Halt). ReplaysTo (asked job) before b (Err x)) (sym (same ∙ ap (λ (n : Numbering). halts.Stop (stop_named n stop)) (numbers_are before job is sized))) h

pub two_of : (before : Outside) (job : Job) → IsJob before job → IsSized job → 2 ≤ before.told.next
two_of before job is sized = omega (arith, sized.from_two, is.first)

-- ---- the text and the captures

unread_known : (c : Replay) (before now : Told) (old new : Counted) (stop : CallFault) → ((port : ℕ) → stop ≡ stops.File (Capture port) → KnowsPorts c before) → IsReadCause (reads_of c) before now old new stop → IsKnown c before now stop
unread_known c before now old new (stops.File Nf) ports h = tt
unread_known c before now old new (stops.File (Capture port)) ports h = record { ports = ports port refl; lesser = h.lesser }
unread_known c before now old new (stops.File Journal) ports h = absurd h
unread_known c before now old new (stops.File (Output port)) ports h = absurd h
unread_known c before now old new (stops.File OutJournal) ports h = absurd h
unread_known c before now old new (stops.File State) ports h = absurd h
unread_known c before now old new (stops.File Proof) ports h = absurd h
unread_known c before now old new (stops.File Stdout) ports h = absurd h
unread_known c before now old new (stops.File Stderr) ports h = absurd h
unread_known c before now old new stops.Memory ports h = tt

-- they were not all read
unread : (c : Replay) (before b : Outside) (stop : CallFault) → (h : IsUnread (reads_of c) before b stop) → ((port : ℕ) → stop ≡ stops.File (Capture port) → KnowsPorts c before.told) → (1 < length h.front → KnowsPorts c before.told) → IsStopped c before b stop
unfolding read_stops
unread c before b stop h ports due =
    stopped_untouched c before b stop h.untouched (read_stops (reads_of c) before b Read (length c.captures) (asked_by c) stop (inputs_front c) h)
    (unread_known c before.told b.told _ b.counted stop ports h.cause)
    (record { ports = due; headers = λ lt. absurd (omega (arith, lt, front_length (inputs_of c) h.front h.is_front, length-map c.captures reading)) })

pub unfound : (c : Replay) (before b : Outside) (why : NoFunction) → IsUntouched before.told b.told → FindsFunction before.told c.function (Err why) → HasFoundCause c.function before.told.next before.counted b.counted (Err why) → ReplaysTo c before b (Err (halt_of why))
unfound c before b (none.Text fault) untouched finds cause = (finds, record { untouched = untouched; asked = cause })
unfound c before b (none.Stop stop) untouched finds cause =
    let h = is_unfound (reads_of c) before b stop untouched cause in
    unread c before b stop h.unread (λ port e. absurd (h.no_capture port e)) (λ lt. absurd (omega (arith, lt, h.few)))

-- what a job is of has as many ports as captures
pub job_ports : (before : Outside) (job : Job) → IsJob before job → KnowsPorts (asked job) before.told
job_ports before job is = record { function = function_of job.func.now; has_ports = is.has_ports }

pub unfed : (before b : Outside) (job : Job) (halt : Halt) → IsJob before job → IsSized job → ReadsTo (reads_of (asked job)) (function_of job.func.now) before b (Err halt) → ReplaysTo (asked job) before b (Err halt)
unfed before b job (halts.Refusal (refusals.NotCapture port)) is sized h =
    (record { function = function_of job.func.now; has_ports = is.has_ports; name = h.0.name; at = h.0.at; none = h.0.none; lesser = h.0.lesser }, h.1)
unfed before b job (halts.Refusal refusals.Usage) is sized h = absurd h
unfed before b job (halts.Refusal (refusals.Text fault)) is sized h = absurd h
unfed before b job (halts.Refusal (refusals.NoKeys why)) is sized h = absurd h
unfed before b job (halts.Stop stop) is sized h = unread (asked job) before b stop h (λ port e. job_ports before job is) (λ lt. job_ports before job is)

-- all captures have headers
pub fed_headers : (before now : Outside) (job : Job) (captures : List ℕ) (v : Feeding) → IsJob before job → HasFed before now job captures v → KnowsHeaders (asked job) before.told
fed_headers before now job captures v is h = record { ports = job_ports before job is; captures = all_captures h }

-- ---- the journal and the outputs

pub due_others : (c : Replay) (told : Told) (names : ℕ) → KnowsHeaders c told → IsDue c told names
due_others c told names h = record { ports = λ lt. h.ports; headers = λ lt. h }

-- memory ran out once the headers were read
pub unkept_fed : (before now : Outside) (job : Job) (captures : List ℕ) (v : Feeding) → IsJob before job → HasFed before now job captures v → IsStopped (asked job) before now stops.Memory
unkept_fed before now job captures v is h =
    let only = fed_only h in
    stopped_untouched (asked job) before now stops.Memory only.untouched (memory_behind (numbering before.told.next (ports_of job)) (asked_by (asked job)) (inputs_of (asked job)) before.counted now.counted (inputs_front (asked job)) only.asked)
    tt (due_others (asked job) before.told _ (fed_headers before now job captures v is h))

-- a capture's file, while all have headers
pub known_capture : (c : Replay) (told now : Told) (number i : ℕ) → KnowsHeaders c told → 2 ≤ told.next → number ≡ told.next + 1 + i → i < length c.captures → KnownAt c told now (file_of Read told.next (length c.captures) (length c.captures) number)
known_capture c told now number i h two at lt =
    subst (KnownAt c told now) (sym (file_capture Read told.next (length c.captures) (length c.captures) number i two at lt))
    (record { ports = h.ports; lesser = λ next. λ p n less named. h.captures p n (omega (arith, less, lt)) named })

-- the journal's or an output's
pub known_other : (c : Replay) (told now : Told) (number k : ℕ) → KnowsHeaders c told → 2 ≤ told.next → number ≡ told.next + 1 + length c.captures + k → KnownAt c told now (file_of Read told.next (length c.captures) (length c.captures) number)
known_other c told now number k h two at =
    subst (KnownAt c told now) (sym (file_other Read told.next (length c.captures) (length c.captures) number k two at)) (elim (cases_eq k 0) [
      | inl none ↦ subst (KnownAt c told now) (sym (read_journal (length c.captures) k none)) h
      | inr some ↦ subst (KnownAt c told now) (sym (read_output (length c.captures) k some)) h
    ])

unopened : (c : Replay) (told now : Told) (stop : RunFault) → KnowsHeaders c told → 2 ≤ told.next → StopsFrom (told.next + 1 + length c.captures) (length c.captures + 1) stop → IsNumbered (numbering told.next (length c.captures)) stop × IsKnown c told now (stop_named (numbering told.next (length c.captures)) stop)
unopened c told now numbered.Memory h two from = (tt, tt)
unopened c told now (numbered.File number) h two from =
    let k = number - (told.next + 1 + length c.captures) in
    let at : number ≡ told.next + 1 + length c.captures + k = omega (arith, from.0) in
    (own_read told.next (length c.captures) (length c.captures) number k two at, known_other c told now number k h two at)

-- one of them could not be opened
pub are_unopened : (before a b : Outside) (job : Job) (captures : List ℕ) (v : Feeding) (stop : RunFault) → IsJob before job → IsSized job → HasFed before a job captures v → IsUntouched a.told b.told → StopsFrom (before.told.next + 1 + ports_of job) (ports_of job + 1) stop → AsksSome (map reading (names_of (asked job))) a.counted b.counted stop
    → IsStopped (asked job) before b (stop_named (numbering before.told.next (ports_of job)) stop)
are_unopened before a b job captures v stop is sized h untouched from asks =
    let n = numbering before.told.next (ports_of job) in
    let only = fed_only h in
    let headers = fed_headers before a job captures v is h in
    let at = unopened (asked job) before.told b.told stop headers (two_of before job is sized) from in
    stopped_untouched (asked job) before b (stop_named n stop) (untouched_both before.told a.told b.told only.untouched untouched)
    (stopped_asking n (asked_by (asked job)) (inputs_of (asked job)) (map reading (names_of (asked job))) before.counted a.counted b.counted stop at.0
    (λ front g. front_behind (inputs_of (asked job)) (map reading (names_of (asked job))) front g) only.asked asks)
    at.1 (due_others (asked job) before.told _ headers)
