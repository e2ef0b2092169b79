-- A run over made-up traffic that created files, up to its end.
use Rattle.std.proofs.Common.{◌≡◌, inr, ℕ, ◌+◌, ◌<◌, ◌≤◌, List, [], ◌++◌, length, Err, refl, ap, sym, subst, ◌∙◌, append-nil, arith}
use Rattle.std.proofs.lemmas.List.{length-map}
use Rattle.nf_base.specs.Functions.{function_of}
use Rattle.nf_base.specs.Handlers.{blocks_of}
use Rattle.nf_base.specs.Text.{Function}
use Rattle.nf_base.specs.declared.state.State.{State}
use Rattle.nf_files.specs.Told.{Told}
use Rattle.packet_feed.specs.Arrivals.{Arrival}
use Rattle.run_history.specs.StateText as states
use Rattle.run_history.specs.declared.line.Mode.{Mode}
use Rattle.stream_run.specs.Runs.{Run}
use Rattle.stream_run.specs.declared.fault.RunFault.{RunFault}
use Rattle.traffic_run.specs.Runs.{AreFirst, IsSent}
use Rattle.traffic_summary.specs.Summary.{numbers_text}
use Rattle.command_words.specs.Commands.{Gen}
use Rattle.call_base.specs.declared.layout.FileOrder.{FileOrder}
use Rattle.call_base.specs.declared.layout.FileOrder.TheVariants.{Created}
use Rattle.call_base.specs.declared.status.End.TheVariants.{Whole}
use Rattle.call_base.specs.declared.status.CallFault.{CallFault}
use Rattle.call_base.specs.declared.status.Halt.{Halt}
use Rattle.call_base.specs.declared.status.Halt.TheVariants as halts
use Rattle.call_base.specs.Created.{bytes_at}
use Rattle.call_base.specs.Layout as layout
use Rattle.call_base.specs.Layout.{numbering_of, stop_named}
use Rattle.call_base.specs.Leaving.{IsPut, IsOut, FinishesTo, AreOf, HasPrinted, IsBroken}
use Rattle.call_base.specs.Names.{name_at}
use Rattle.call_base.specs.Numbers.{Numbering}
use Rattle.call_base.specs.Outside.{Outside}
use Rattle.call_base.specs.Printed.{PrintedFront}
use Rattle.call_base.proofs.Ending as ending
use Rattle.call_base.proofs.Ending.{last_bytes, kept_finished}
use Rattle.gen_call.specs.declared.job.Job.{Job}
use Rattle.gen_call.specs.Numbers.{made_numbering}
use Rattle.gen_call.specs.Runs.{packets_for, IsRunOf, IsEndOf, IsSummary, left_lines, summary_text}
use Rattle.gen_call.specs.Ending.{ports_of, IsFinished, IsPrinting, IsStopped, GensTo}
use Rattle.gen_call.specs.Progress.{Since, HasRefused, IsJob, HasDone, asked, state_name, state_text, lines_of, leaves_of}

-- ---- a run's ports

pub handlers_of : (job : Job) → length (function_of job.func.now).handlers ≡ length job.func.now.handlers
handlers_of job = length-map job.func.now.handlers blocks_of

pub ports_are : (before : Outside) (job : Job) (run : Run) → IsJob before job → run.function ≡ function_of job.func.now → ports_of run ≡ job.layout.ports
ports_are before job run is e = ap (λ (f : Function). length f.handlers) e ∙ handlers_of job ∙ is.handlers

pub are_of : (before : Outside) (job : Job) (run : Run) → IsJob before job → run.function ≡ function_of job.func.now → AreOf (leaves_of (asked job) before job.layout.ports) before run
are_of before job run is e = record {
  from_two = omega (arith, is.from_two, is.first);
  base_is = omega arith;
  few = is.few;
  ports = ports_are before job run is e;
}

-- ---- a stop

pub halted : (since : Since) (b : Outside) (job : Job) (stop : RunFault) (halt : Halt) → IsJob since.before job → halt ≡ halts.Stop (stop_named (numbering_of job.layout) stop)
    → IsStopped (asked job) (HasRefused since) since.before b (stop_named (made_numbering since.before.told.next job.layout.ports) stop) → GensTo (asked job) (HasRefused since) since.before b (Err halt)
halted since b job stop halt is e h =
    let l = job.layout in
    let same : numbering_of l ≡ made_numbering since.before.told.next l.ports =
    ap (λ (k : FileOrder). layout.numbering k l.first l.captures l.ports) is.behind
    ∙ ap (λ (n : ℕ). layout.numbering Created n l.captures l.ports) is.first
    ∙ ap (λ (n : ℕ). layout.numbering Created since.before.told.next n l.ports) is.captures in
    subst (λ (x : Halt). GensTo (asked job) (HasRefused since) since.before b (Err x)) (sym (e ∙ ap (λ (n : Numbering). halts.Stop (stop_named n stop)) same)) h

-- a front of the lines on a run
abbrev pub HalfTold : Gen → Outside → Outside → Run → Type 0
HalfTold c before now run = (text : List ℕ) × IsSummary c now.told (before.told.next + 1) run text × PrintedFront before.told now.told 0 text

-- the same by the ports of the run's own function
pub cut_short : (since : Since) (b : Outside) (job : Job) (given : List Arrival) (run : Run) (stop : CallFault) → IsJob since.before job → run.function ≡ function_of job.func.now → IsRunOf (asked job) (HasRefused since) since.before.told given run → AreFirst (packets_for (asked job) run.function) given
    → IsBroken (leaves_of (asked job) since.before job.layout.ports) (IsPrinting (asked job) run given) (IsEndOf (asked job) run given Whole) (HalfTold (asked job) since.before b run) since.before b run stop → IsStopped (asked job) (HasRefused since) since.before b stop
cut_short since b job given run stop is f is_run first broken =
    let c = asked job in
    let k = subst (λ (n : ℕ). IsBroken (leaves_of c since.before n) (IsPrinting c run given) (IsEndOf c run given Whole) (HalfTold c since.before b run) since.before b run stop) (sym (ports_are since.before job run is f)) broken in
    inr (record {
      run = run;
      given = given;
      is_run = is_run;
      first = first;
      made = k.made;
      full = k.full;
      within = k.within;
      files = k.files;
      far = k.far;
      last = k.last;
      stdout = k.stdout;
      stderr = k.stderr;
      stops = k.stops;
    })

-- ---- a run whose packets were all handled

-- the name and the text of its last file, as the code has them
name_is : (before : Outside) (job : Job) → IsJob before job → state_name job ≡ name_at (asked job).format (asked job).out job.layout.ports (job.layout.ports + 1)
name_is before job is = ap (λ (n : ℕ). name_at (asked job).format (asked job).out n (n + 1)) is.handlers

text_is : {since : Since} {a : Outside} {job : Job} {mode : Mode} {state : State} {sent : ℕ} → IsJob since.before job → (h : HasDone since a job mode state sent) → state_text job state ≡ bytes_at (asked job).format h.run (job.layout.ports + 1)
text_is {since = since} {job = job} {state = state} is h =
    ap (λ (f : Function). states.state_text f state) (sym h.of_function) ∙ sym (last_bytes (asked job).format h.run job.layout.ports state h.left.0 (ports_are since.before job h.run is h.of_function) h.left.1)

-- what was sent stays what it was, where what the outputs were given does
sent_on : (told now : Told) (first : ℕ) (run : Run) (sent : ℕ) → ((k : ℕ) → k < ports_of run → now.given (first + k) ≡ told.given (first + k)) → IsSent told first run sent → IsSent now first run sent
sent_on told now first run sent same h other all = h other (λ k lt none. all k lt (same k lt ∙ none))

-- the lines, as a run has them
summary_is : {since : Since} {a : Outside} {job : Job} {mode : Mode} {state : State} {sent : ℕ} → (h : HasDone since a job mode state sent) → lines_of job mode state sent ≡ summary_text (asked job) h.run sent state
summary_is {job = job} {state = state} {sent = sent} h =
    let c = asked job in
    let run = h.run in
    let f : function_of job.func.now ≡ run.function = sym h.of_function in
    let n : length job.func.now.handlers ≡ ports_of run = sym (handlers_of job) ∙ ap (λ (g : Function). length g.handlers) f in
    ap (λ (m : Mode). numbers_text c.count (length job.func.now.handlers) m c.workers ++ left_lines m (function_of job.func.now) sent state) h.mode_is
    ∙ ap (λ (k : ℕ). numbers_text c.count k run.mode c.workers ++ left_lines run.mode (function_of job.func.now) sent state) n
    ∙ ap (λ (g : Function). numbers_text c.count (ports_of run) run.mode c.workers ++ left_lines run.mode g sent state) f

-- they sum the run up, where what its outputs were given stays
is_summary : {since : Since} {a : Outside} {job : Job} {mode : Mode} {state : State} {sent : ℕ} (b : Outside) → IsJob since.before job → (h : HasDone since a job mode state sent) → ((g : ℕ) → 0 < g → g < a.told.next → b.told.given g ≡ a.told.given g) → IsSummary (asked job) b.told (since.before.told.next + 1) h.run (lines_of job mode state sent)
is_summary {since = since} {a = a} {job = job} {state = state} {sent = sent} b is h kept =
    let first = since.before.told.next + 1 in
    let ports = ports_are since.before job h.run is h.of_function in
    record {
      state = state;
      left = h.left;
      sent = sent;
      sent_is = sent_on a.told b.told first h.run sent (λ k lt. kept (first + k) (omega arith) (omega (arith, lt, ports, h.made.files.next))) h.sent_is;
      text_is = summary_is h;
    }

pub finished : (since : Since) (a b : Outside) (job : Job) (mode : Mode) (state : State) (sent : ℕ) → IsJob since.before job → HasDone since a job mode state sent
    → (mid : Outside) → IsPut (state_name job) (state_text job state) a mid → IsOut (lines_of job mode state sent) mid b → IsFinished (asked job) (HasRefused since) since.before b Whole
finished since a b job mode state sent is h mid put out =
    let c = asked job in
    let n = job.layout.ports in
    let lines = lines_of job mode state sent in
    let text = state_text job state in
    let p = ending.finished (leaves_of c since.before n) since.before a mid b h.run text lines (are_of since.before job h.run is h.of_function) h.made (text_is is h) (subst (λ (x : List ℕ). IsPut x text a mid) (name_is since.before job is) put) out in
    let q = subst (λ (m : ℕ). HasPrinted (leaves_of c since.before m) since.before b h.run (m + 2) lines) (sym (ports_are since.before job h.run is h.of_function)) p in
    record {
      run = h.run;
      given = packets_for c h.run.function;
      is_run = h.is_run;
      ending = refl;
      files = q.files;
      stdout = record { text = lines; is_summary = is_summary b is h (kept_finished put out); printed = q.stdout };
      stderr = q.stderr;
      asked = q.asked_for;
    }

pub unfinished : (since : Since) (a b : Outside) (job : Job) (mode : Mode) (state : State) (sent : ℕ) (stop : RunFault) → IsJob since.before job → HasDone since a job mode state sent → FinishesTo {T = Unit {0}} (state_name job) (state_text job state) (lines_of job mode state sent) a b (Err stop)
    → IsStopped (asked job) (HasRefused since) since.before b (stop_named (made_numbering since.before.told.next job.layout.ports) stop)
unfinished since a b job mode state sent stop is h failed =
    let c = asked job in
    let n = job.layout.ports in
    let lines = lines_of job mode state sent in
    let text = state_text job state in
    let given = packets_for c h.run.function in
    cut_short since b job given h.run _ is h.of_function h.is_run ([], sym (append-nil given))
    (ending.unfinished (leaves_of c since.before n) (IsPrinting c h.run given) (IsEndOf c h.run given Whole) (HalfTold c since.before b h.run) since.before a b h.run text lines stop (are_of since.before job h.run is h.of_function) h.made (text_is is h) refl
    (record { ending = refl; all = ap (λ (m : ℕ). m + 2) (sym (ports_are since.before job h.run is h.of_function)); whole = refl })
    (λ kept front. (lines, is_summary b is h kept, front))
    (subst (λ (x : List ℕ). FinishesTo {T = Unit {0}} x text lines a b (Err stop)) (name_is since.before job is) failed))
