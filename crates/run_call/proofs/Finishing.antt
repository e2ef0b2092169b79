-- A run that created files, up to its end.
use Rattle.std.proofs.Common.{◌≡◌, ℕ, ◌+◌, ◌<◌, ◌≤◌, List, length, Ok, Err, inr, refl, ap, sym, subst, ◌∙◌, arith}
use Rattle.nf_base.specs.Functions.{function_of}
use Rattle.nf_base.specs.Text.{Function}
use Rattle.nf_base.specs.declared.state.State.{State}
use Rattle.nf_files.specs.Causes.{asking}
use Rattle.packet_feed.specs.Arrivals.{Arrival}
use Rattle.run_history.specs.StateText.{state_text}
use Rattle.run_history.specs.declared.line.Mode.{Mode}
use Rattle.stream_run.specs.Runs.{Run}
use Rattle.stream_run.specs.declared.fault.RunFault.{RunFault}
use Rattle.command_words.specs.Commands.{Run as RunAsked}
use Rattle.call_base.specs.declared.status.End.{End}
use Rattle.call_base.specs.declared.status.CallFault.{CallFault}
use Rattle.call_base.specs.Created.{bytes_at}
use Rattle.call_base.specs.Layout.{run_numbering, stop_named}
use Rattle.call_base.specs.Leaving.{IsPut, IsOut, IsHalfOut, FinishesTo, AreOf, HasPrinted, IsBroken}
use Rattle.call_base.specs.Names.{name_at, asked_until}
use Rattle.call_base.specs.Outside.{Outside}
use Rattle.call_base.specs.Printed.{Printed, PrintedFront}
use Rattle.call_base.specs.Texts.{ran_line}
use Rattle.call_base.proofs.Ending.{last_bytes, has_printed, broken_out, finished, unfinished}
use Rattle.run_call.specs.declared.job.Job.{Job}
use Rattle.run_call.specs.Runs.{HasPorts, IsRunOf, left_by}
use Rattle.run_call.specs.Ending.{HasLeft, IsFinished, IsPrinting, LeavesState, IsCutShort, IsStopped}
use Rattle.run_call.specs.Progress.{IsJob, HasRun, asked, ports_of, leaves_of}

pub are_of : (before : Outside) (job : Job) (run : Run) → IsJob before.told job → HasPorts (asked job) before.told run.function → AreOf (leaves_of (asked job) before) before run
are_of before job run is has = record {
  from_two = omega (arith, is.from_two, is.first);
  base_is = refl;
  few = omega (arith, is.few, is.ports);
  ports = sym has.as_many;
}

-- the line on a run
abbrev line_on : Run → List ℕ
line_on run = ran_line (length run.turns) run.mode run.workers

-- A run that a command asks for was stopped.
abbrev pub IsBrokenRun : RunAsked → Outside → Outside → List Arrival → Run → CallFault → Type 0
IsBrokenRun c before now arrivals run stop =
    IsBroken (leaves_of c before) (IsPrinting c before arrivals run) (LeavesState c before arrivals run) (PrintedFront before.told now.told 0 (line_on run)) before now run stop

pub cut_short : {Refused : Type 0} (c : RunAsked) (before now : Outside) (arrivals : List Arrival) (run : Run) (stop : CallFault) → IsRunOf Refused c before.told arrivals run → IsBrokenRun c before now arrivals run stop → IsStopped Refused c before now stop
cut_short c before now arrivals run stop is_run k = inr (record {
  arrivals = arrivals;
  run = run;
  is_run = is_run;
  made = k.made;
  full = k.full;
  within = k.within;
  files = k.files;
  far = k.far;
  last = k.last;
  stdout = k.stdout;
  stderr = k.stderr;
  stops = k.stops;
})

line_told : {Refused : Type 0} {before a : Outside} {job : Job} {mode : Mode} {packets : ℕ} {state : State} {end : End} (lines : List ℕ) → (h : HasRun Refused before a job mode packets state end) → lines ≡ ran_line packets mode (asked job).workers → lines ≡ line_on h.run
line_told {job = job} {mode = mode} {packets = packets} lines h line =
    line ∙ ap (λ (n : ℕ). ran_line n mode (asked job).workers) (sym h.count)
    ∙ ap (λ (m : Mode). ran_line (length h.run.turns) m (asked job).workers) (sym h.mode_is)
    ∙ ap (ran_line (length h.run.turns) h.run.mode) (sym h.workers_are)

-- all files that the run leaves are whole, and the line was printed
is_finished : {Refused : Type 0} (before a b : Outside) (job : Job) (mode : Mode) (packets : ℕ) (state : State) (end : End) (lines : List ℕ) (count : ℕ) → (h : HasRun Refused before a job mode packets state end) → left_by (ports_of job) end ≡ count → lines ≡ ran_line packets mode (asked job).workers → HasPrinted (leaves_of (asked job) before) before b h.run count lines → IsFinished Refused (asked job) before b end
is_finished before a b job mode packets state end lines count h all line p = record {
  arrivals = h.arrivals;
  run = h.run;
  is_run = h.is_run;
  ending = h.ending;
  files = subst (λ (n : ℕ). HasLeft (asked job) before b h.run n n) (sym all) p.files;
  stdout = subst (λ (t : List ℕ). Printed before.told b.told 0 t) (line_told lines h line) p.stdout;
  stderr = p.stderr;
  asked = subst (λ (n : ℕ). b.counted ≡ asking (asked_until (asked job) n) before.counted) (sym all) p.asked_for;
}

-- ---- a run that leaves no state

pub printed : {Refused : Type 0} (before a b : Outside) (job : Job) (mode : Mode) (packets : ℕ) (state : State) (end : End) (lines : List ℕ) → IsJob before.told job → HasRun Refused before a job mode packets state end → left_by (ports_of job) end ≡ ports_of job + 1 → lines ≡ ran_line packets mode (asked job).workers → IsOut lines a b → IsFinished Refused (asked job) before b end
printed before a b job mode packets state end lines is h all line out =
    let n = ports_of job in
    is_finished before a b job mode packets state end lines (n + 1) h all line (has_printed (leaves_of (asked job) before) before a b h.run (n + 1) lines (are_of before job h.run is h.is_run.has_ports) h.made out)

pub half_printed : {Refused : Type 0} (before a b : Outside) (job : Job) (mode : Mode) (packets : ℕ) (state : State) (end : End) (lines : List ℕ) (stop : RunFault) → IsJob before.told job → HasRun Refused before a job mode packets state end → left_by (ports_of job) end ≡ ports_of job + 1 → lines ≡ ran_line packets mode (asked job).workers → IsHalfOut lines a b stop
    → IsStopped Refused (asked job) before b (stop_named (run_numbering before.told.next (ports_of job)) stop)
half_printed before a b job mode packets state end lines stop is h all line half =
    let c = asked job in
    let n = ports_of job in
    cut_short c before b h.arrivals h.run _ h.is_run
    (broken_out (leaves_of c before) (IsPrinting c before h.arrivals h.run) (LeavesState c before h.arrivals h.run) (PrintedFront before.told b.told 0 (line_on h.run)) before a b h.run (n + 1) lines stop (are_of before job h.run is h.is_run.has_ports) (omega arith) (λ lt. absurd (omega (arith, lt)))
    (record { end = end; ending = h.ending; all = sym all; whole = refl }) (λ front. subst (λ (t : List ℕ). PrintedFront before.told b.told 0 t) (line_told lines h line) front) h.made half)

-- ---- a run that leaves one

text_is : {Refused : Type 0} {before a : Outside} {job : Job} {mode : Mode} {packets : ℕ} {state : State} {end : End} → IsJob before.told job → (h : HasRun Refused before a job mode packets state end) → state_text (function_of job.func.now) state ≡ bytes_at (asked job).format h.run (ports_of job + 1)
text_is {before = before} {job = job} {state = state} is h =
    ap (λ (f : Function). state_text f state) (sym h.of_function) ∙ sym (last_bytes (asked job).format h.run (ports_of job) state h.answers (are_of before job h.run is h.is_run.has_ports).ports h.left)

-- the name that the code has
name_is : (before : Outside) (job : Job) → IsJob before.told job → name_at (asked job).format (asked job).out (length job.func.now.handlers) (length job.func.now.handlers + 1) ≡ name_at (asked job).format (asked job).out (ports_of job) (ports_of job + 1)
name_is before job is = ap (λ (n : ℕ). name_at (asked job).format (asked job).out n (n + 1)) (is.handlers ∙ is.ports)

pub run_finished : {Refused : Type 0} (before a b : Outside) (job : Job) (mode : Mode) (packets : ℕ) (state : State) (end : End) (lines : List ℕ) → IsJob before.told job → HasRun Refused before a job mode packets state end → left_by (ports_of job) end ≡ ports_of job + 2 → lines ≡ ran_line packets mode (asked job).workers
    → (mid : Outside) → IsPut (name_at (asked job).format (asked job).out (length job.func.now.handlers) (length job.func.now.handlers + 1)) (state_text (function_of job.func.now) state) a mid → IsOut lines mid b → IsFinished Refused (asked job) before b end
run_finished before a b job mode packets state end lines is h all line mid put out =
    let text = state_text (function_of job.func.now) state in
    is_finished before a b job mode packets state end lines (ports_of job + 2) h all line
    (finished (leaves_of (asked job) before) before a mid b h.run text lines (are_of before job h.run is h.is_run.has_ports) h.made (text_is is h) (subst (λ (n : List ℕ). IsPut n text a mid) (name_is before job is) put) out)

pub run_unfinished : {Refused : Type 0} (before a b : Outside) (job : Job) (mode : Mode) (packets : ℕ) (state : State) (end : End) (lines : List ℕ) (stop : RunFault) → IsJob before.told job → HasRun Refused before a job mode packets state end → left_by (ports_of job) end ≡ ports_of job + 2 → lines ≡ ran_line packets mode (asked job).workers
    → FinishesTo {T = Unit {0}} (name_at (asked job).format (asked job).out (length job.func.now.handlers) (length job.func.now.handlers + 1)) (state_text (function_of job.func.now) state) lines a b (Err stop) → IsStopped Refused (asked job) before b (stop_named (run_numbering before.told.next (ports_of job)) stop)
run_unfinished before a b job mode packets state end lines stop is h all line failed =
    let c = asked job in
    let text = state_text (function_of job.func.now) state in
    cut_short c before b h.arrivals h.run _ h.is_run
    (unfinished (leaves_of c before) (IsPrinting c before h.arrivals h.run) (LeavesState c before h.arrivals h.run) (PrintedFront before.told b.told 0 (line_on h.run)) before a b h.run text lines stop (are_of before job h.run is h.is_run.has_ports) h.made (text_is is h)
    (record { end = end; ending = h.ending; leaves = all }) (record { end = end; ending = h.ending; all = sym all; whole = refl })
    (λ kept front. subst (λ (t : List ℕ). PrintedFront before.told b.told 0 t) (line_told lines h line) front)
    (subst (λ (n : List ℕ). FinishesTo {T = Unit {0}} n text lines a b (Err stop)) (name_is before job is) failed))
