-- A replay whose journal and outputs were opened and judged.
use Rattle.std.proofs.Common.{◌≡◌, ◌≢◌, inl, inr, ℕ, zero, suc, ◌+◌, ◌<◌, ◌≤◌, List, [], ◌∷◌, ◌++◌, length, map, get_or, Option, Some, None, Result, Ok, Err, refl, ap, sym, subst, ◌∙◌, append_assoc, append-nil, arith}
use Rattle.std.specs.List.{slice_get, range_with_len}
use Rattle.std.specs.Option.{option_map, option_and_then}
use Rattle.std.proofs.lemmas.List.{length-map}
use Rattle.std.proofs.lemmas.List.FromFn.{get_or-range_with_len, length-range_with_len}
use Rattle.std.proofs.lemmas.Option.{slice_get_within, slice_get-map, slice_get-get_or}
use Rattle.capture_format.specs.declared.format.CaptureFormat.{CaptureFormat}
use Rattle.nf_base.specs.Functions.{function_of}
use Rattle.nf_base.specs.declared.keys.Keys.{Keys}
use Rattle.nf_base.specs.declared.state.State.{State}
use Rattle.nf_files.specs.Told.{Told}
use Rattle.nf_files.specs.Causes.{Counted, Faulted, asking}
use Rattle.nf_files.specs.Pieces.{Gains}
use Rattle.nf_files.specs.Reads.{Keeps}
use Rattle.packet_feed.specs.Told.{KeepsOthers}
use Rattle.packet_feed.specs.Feeding.{Feeding}
use Rattle.run_history.specs.StateText.{state_text}
use Rattle.run_history.specs.Headings.{Heading}
use Rattle.run_history.specs.Line.{line_bytes}
use Rattle.run_history.specs.declared.line.JournalLine.TheVariants.{Header}
use Rattle.journal_read.specs.Journals.{Reading, Stands, HasNoHeader}
use Rattle.stream_run.specs.declared.fault.RunFault.{RunFault}
use Rattle.stream_run.specs.declared.fault.RunFault.TheVariants as numbered
use Rattle.stream_run.specs.Writing.{IsStopCause, StopsAt, StopsAmong}
use Rattle.replay_run.specs.Turns.{Begins, beside_of}
use Rattle.replay_run.specs.Heads.{Comes}
use Rattle.replay_run.specs.declared.opened.OpenedJournal.{OpenedJournal}
use Rattle.replay_run.specs.declared.result.ReplayResult.{ReplayResult}
use Rattle.replay_run.specs.declared.result.ReplayResult.TheVariants as came
use Rattle.replay_run.proofs.Ends.{started_while}
use Rattle.replay_run.proofs.Heads.{comes_as}
use Rattle.replay_run.proofs.Kept.{others_both, others_one}
use Rattle.call_base.specs.declared.layout.FileOrder.TheVariants.{Read}
use Rattle.call_base.specs.declared.status.RunFile.TheVariants.{Stdout}
use Rattle.call_base.specs.declared.status.CallFault.{CallFault}
use Rattle.call_base.specs.declared.status.CallFault.TheVariants as stops
use Rattle.call_base.specs.Outside.{Outside, IsUntouched}
use Rattle.call_base.specs.Names.{reading, output_name}
use Rattle.call_base.specs.Numbers.{StopsBy}
use Rattle.call_base.specs.Layout.{number_of, stop_named}
use Rattle.call_base.specs.Opened.{AreOpened}
use Rattle.call_base.specs.Printed.{Printed, PrintedFront}
use Rattle.call_base.specs.PrintedOut.{IsPrinted, IsHalfPrinted, IsPrintCause}
use Rattle.call_base.proofs.Asking.{asking_both, front_all}
use Rattle.call_base.proofs.Creating.{untouched_both}
use Rattle.call_base.proofs.Layouts.{IsNumbered, own_capture, own_read, file_stdout}
use Rattle.call_base.proofs.Reading.{got_at, fed_next, fed_only, all_captures, packets_fed}
use Rattle.call_base.proofs.Stops.{stopped_behind, memory_behind}
use Rattle.replay_call.specs.declared.ending.ReplayEnd.{ReplayEnd}
use Rattle.replay_call.specs.declared.job.Job.{Job}
use Rattle.replay_call.specs.Numbers.{numbering}
use Rattle.replay_call.specs.Names.{inputs_of, names_of, asked_by}
use Rattle.replay_call.specs.Contents.{BeginsWith, beside_under, keys_by}
use Rattle.replay_call.specs.ReplayEnd.{KnowsHeaders, KnowsSame, KnownAt, IsKnown, IsChecked, IsStopped, checked_by, printed_by}
use Rattle.replay_call.specs.Progress.{AreKeysOf, IsJob, IsSized, HasFed, HasReady, HasBegun, HasCome, asked, ports_of}
use Rattle.replay_call.proofs.Beginning.{two_of, fed_headers, stopped_untouched, known_capture, known_other, due_others}

-- ---- the names

name_there : (format : CaptureFormat) (out : List ℕ) (n i : ℕ) → i < n → slice_get (map (output_name format out) (range_with_len 0 n)) i ≡ Some (output_name format out i)
name_there format out n i lt =
    let range = range_with_len 0 n in
    let long : i < length range = omega (arith, lt, length-range_with_len 0 n) in
    let zero_more : 0 + i ≡ i = omega arith in
    slice_get-map (output_name format out) range i
    ∙ ap (option_map (output_name format out)) (slice_get-get_or range i 0 long ∙ ap (λ (k : ℕ). Some k) (get_or-range_with_len 0 n i 0 lt ∙ zero_more))

-- ---- the journal and the outputs were opened

pub has_ready : (before a b : Outside) (job : Job) (captures : List ℕ) (v : Feeding) (opened : List ℕ) (journal : ℕ) (outputs : List ℕ) → HasFed before a job captures v → AreOpened a.told b.told (names_of (asked job)) opened → opened ≡ journal ∷ outputs → length opened ≡ ports_of job + 1
    → IsUntouched a.told b.told → ((g : ℕ) → g < a.told.next → b.told.rest g ≡ a.told.rest g) → b.counted ≡ asking (map reading (names_of (asked job))) a.counted → HasReady before b job captures v journal outputs
has_ready before a b job captures v opened journal outputs h opens same all untouched rests counted =
    let here : slice_get opened 0 ≡ Some journal = ap (λ (xs : List ℕ). slice_get xs 0) same in
    let there : (i f : ℕ) → slice_get outputs i ≡ Some f → slice_get opened (suc i) ≡ Some f = λ i f e. ap (λ (xs : List ℕ). slice_get xs (suc i)) same ∙ e in
    let count : length opened ≡ suc (length outputs) = ap (λ (xs : List ℕ). length xs) same in
    let only = fed_only h in
    record {
      mid = a;
      fed = h;
      started = started_while h.old.told v a.told b.told
          (λ port f e.
          let at : slice_get captures port ≡ Some f = ap (λ (fs : List ℕ). slice_get fs port) (sym h.fresh.files) ∙ e in
          rests f (omega (arith, h.opened.numbers port f at, slice_get_within captures port f at, fed_next h)))
          (record { in_order = h.stands; by_port = h.by_port });
      journal_at = omega (arith, opens.numbers 0 journal here, fed_next h, h.opened.all);
      outputs_at = λ i f e. omega (arith, opens.numbers (suc i) f (there i f e), fed_next h, h.opened.all);
      journal_is = opens.rests 0 journal (asked job).journal here refl ∙ only.untouched.contents (asked job).journal;
      outputs_are = λ i f e.
          let lt : i < ports_of job = omega (arith, slice_get_within outputs i f e, count, all) in
          opens.rests (suc i) f (output_name (asked job).format (asked job).out i) (there i f e) (name_there (asked job).format (asked job).out (ports_of job) i lt) ∙ only.untouched.contents (output_name (asked job).format (asked job).out i);
      only = record {
        untouched = untouched_both before.told a.told b.told only.untouched untouched;
        asked = counted ∙ ap (asking (map reading (names_of (asked job)))) only.asked ∙ asking_both (inputs_of (asked job)) (map reading (names_of (asked job))) before.counted;
      };
    }

-- ---- what was judged, by what stood under the names

-- a journal whose first line was read begins with it
begins_with : (start now : Option (List ℕ)) (v : Reading) (heading : Heading) → Stands start (Header heading ∷ []) v now → BeginsWith heading start
begins_with None now v heading h = tt
begins_with (Some all) None v heading h = absurd h
begins_with (Some all) (Some left) v heading h =
    let mine = line_bytes (Header heading) in
    (v.held ++ left, sym (h ∙ append_assoc (mine ++ []) v.held left ∙ ap (λ (l : List ℕ). l ++ (v.held ++ left)) (append-nil mine)))

-- the captures are another's than the journal's file
other_capture : (before a : Outside) (job : Job) (captures : List ℕ) (v : Feeding) (journal : ℕ) (outputs : List ℕ) → HasReady before a job captures v journal outputs → (i f : ℕ) → slice_get captures i ≡ Some f → f ≢ journal
other_capture before a job captures v journal outputs h i f e = λ same. omega (arith, same, h.fed.opened.numbers i f e, h.journal_at, slice_get_within captures i f e, h.fed.opened.all)

-- and so are the outputs
other_output : (before a : Outside) (job : Job) (captures : List ℕ) (v : Feeding) (journal : ℕ) (outputs : List ℕ) → HasReady before a job captures v journal outputs → (i f : ℕ) → slice_get outputs i ≡ Some f → f ≢ journal
other_output before a job captures v journal outputs h i f e = λ same. omega (arith, same, h.outputs_at i f e, h.journal_at)

pub has_come : (before a b : Outside) (job : Job) (keys : Option Keys) (captures : List ℕ) (v : Feeding) (begun : OpenedJournal) (outputs : List ℕ) (came : ReplayResult) → IsJob before job → IsSized job → HasBegun before a job captures v begun outputs → AreKeysOf (function_of job.func.now) begun.header.card keys
    → length outputs ≡ job.layout.ports
    → ((start : Told) (bytes : Option (List ℕ)) → Begins begun.header v begun.lines start bytes a.told → Comes {E = RunFault} (function_of job.func.now) keys begun.header (length captures) (beside_of job.command.now.format v start bytes outputs a.told job.command.now.most) (Ok came))
    → KeepsOthers (captures ++ begun.lines.file ∷ outputs) a.told b.told → b.counted ≡ a.counted → HasCome before b job came
has_come before a b job keys captures v begun outputs came is sized h of_card as_many comes kept counted =
    let c = asked job in
    let f = function_of job.func.now in
    let r = h.ready in
    let journal = begun.lines.file in
    let ports : job.layout.ports ≡ length c.captures = sym (length-map job.command.now.captures.items _ ∙ sized.captures) in
    let fed = r.fed in
    let bytes = h.old.told.rest journal in
    let one = beside_of job.command.now.format v fed.old.told bytes outputs a.told job.command.now.most in
    let begins : Begins begun.header v begun.lines fed.old.told bytes a.told = record {
      captures = started_while fed.old.told v h.old.told a.told (λ port g e. h.kept.rests g (other_capture before h.old job captures v journal outputs r port g (subst (λ (fs : List ℕ). slice_get fs port ≡ Some g) fed.fresh.files e))) r.started;
      lines = h.lines;
    } in
    let here = subst (λ (ks : Option Keys). Comes {E = RunFault} f ks begun.header (length c.captures) one (Ok came)) (sym of_card.same)
    (subst (λ (n : ℕ). Comes {E = RunFault} f keys begun.header n one (Ok came)) fed.opened.all (comes fed.old.told bytes begins)) in
    let others = others_both (captures ++ journal ∷ outputs) h.old.told a.told b.told (others_one captures journal outputs h.old.told a.told h.kept) kept in
    record {
      replayed = record {
        has_ports = is.has_ports;
        captures = all_captures fed;
        judged = inr (record {
          heading = begun.header;
          is_heading = h.is_heading;
          first = subst (BeginsWith begun.header) r.journal_is (begins_with bytes (a.told.rest journal) begun.lines begun.header h.lines);
          verdict = of_card.verdict;
          is_verdict = of_card.is_verdict;
          comes = comes_as f (keys_by of_card.verdict) begun.header (length c.captures) one (beside_under f c before.told) (Ok came)
              refl
              (sym (packets_fed f v fed refl refl refl))
              (sym r.journal_is)
              refl
              (λ port lt.
              let there = got_at outputs port (omega (arith, lt, as_many, ports)) in
              sym (ap (option_and_then (λ (g : ℕ). a.told.rest g)) there.1 ∙ h.kept.rests there.0 (other_output before h.old job captures v journal outputs r port there.0 there.1) ∙ r.outputs_are port there.0 there.1))
              here;
        });
      };
      contents = λ n. others.contents n ∙ r.only.untouched.contents n;
      stdout = others.givens 0 ∙ r.only.untouched.standard 0 (omega arith);
      stderr = others.givens 1 ∙ r.only.untouched.standard 1 (omega arith);
      asked_for = counted ∙ h.counted ∙ r.only.asked;
    }

-- the journal begins with no first line
pub headless : (before a b : Outside) (job : Job) (captures : List ℕ) (v : Feeding) (journal : ℕ) (outputs : List ℕ) → IsJob before job → HasReady before a job captures v journal outputs
    → HasNoHeader (a.told.rest journal) → Keeps a.told b.told journal → b.counted ≡ a.counted → HasCome before b job (came.Line 1)
headless before a b job captures v journal outputs is h none kept counted = record {
  replayed = record {
    has_ports = is.has_ports;
    captures = all_captures h.fed;
    judged = inl (record { first = refl; none = subst HasNoHeader h.journal_is none });
  };
  contents = λ n. kept.contents n ∙ h.only.untouched.contents n;
  stdout = kept.givens 0 ∙ h.only.untouched.standard 0 (omega arith);
  stderr = kept.givens 1 ∙ h.only.untouched.standard 1 (omega arith);
  asked_for = counted ∙ h.only.asked;
}

-- ---- a stop while lines are judged

-- a capture, the journal or an output
at_judging : (before a : Outside) (now : Told) (job : Job) (captures : List ℕ) (v : Feeding) (journal : ℕ) (outputs : List ℕ) (stop : RunFault) → 2 ≤ before.told.next → KnowsHeaders (asked job) before.told → HasReady before a job captures v journal outputs → StopsAmong {T = ReplayResult} captures (journal ∷ outputs) (Err stop)
    → IsNumbered (numbering before.told.next (ports_of job)) stop × IsKnown (asked job) before.told now (stop_named (numbering before.told.next (ports_of job)) stop)
at_judging before a now job captures v journal outputs numbered.Memory two known h among = (tt, tt)
at_judging before a now job captures v journal outputs (numbered.File file) two known h (inl one) =
    let n = ports_of job in
    let at = h.fed.opened.numbers one.0 file one.1 in
    let lt : one.0 < n = omega (arith, slice_get_within captures one.0 file one.1, h.fed.opened.all) in
    (own_capture Read before.told.next n n file one.0 two at lt, known_capture (asked job) before.told now file one.0 known two at lt)
at_judging before a now job captures v journal outputs (numbered.File file) two known h (inr one) =
    let n = ports_of job in
    let at = at_place one.0 one.1 in
    (own_read before.told.next n n file one.0 two at, known_other (asked job) before.told now file one.0 known two at)
  where
    at_place : (k : ℕ) → slice_get (journal ∷ outputs) k ≡ Some file → file ≡ before.told.next + 1 + ports_of job + k
    at_place zero e = let same : journal ≡ file = cc in omega (arith, same, h.journal_at)
    at_place (suc k) e = omega (arith, h.outputs_at k file e)

pub is_unjudged : (before a b : Outside) (job : Job) (captures : List ℕ) (v : Feeding) (journal : ℕ) (outputs : List ℕ) (stop : RunFault) → IsJob before job → IsSized job → HasReady before a job captures v journal outputs → KeepsOthers (captures ++ journal ∷ outputs) a.told b.told
    → StopsAmong {T = ReplayResult} captures (journal ∷ outputs) (Err stop) → IsStopCause {T = Unit {0}} a.counted b.counted (Err stop) → IsStopped (asked job) before b (stop_named (numbering before.told.next (ports_of job)) stop)
is_unjudged before a b job captures v journal outputs stop is sized h kept among cause =
    let n = numbering before.told.next (ports_of job) in
    let names = asked_by (asked job) in
    let known = fed_headers before h.mid job captures v is h.fed in
    let at = at_judging before a b.told job captures v journal outputs stop (two_of before job is sized) known h among in
    stopped_untouched (asked job) before b (stop_named n stop)
    (record { contents = λ m. kept.contents m ∙ h.only.untouched.contents m; standard = λ g lt. kept.givens g ∙ h.only.untouched.standard g lt })
    (stopped_behind n names names before.counted a.counted b.counted stop at.0 (front_all names) h.only.asked cause) at.1 (due_others (asked job) before.told _ known)

-- the journal's file alone is one of all
at_among : (captures : List ℕ) (journal : ℕ) (outputs : List ℕ) (stop : RunFault) → StopsAt {T = Unit {0}} journal (Err stop) → StopsAmong {T = ReplayResult} captures (journal ∷ outputs) (Err stop)
at_among captures journal outputs numbered.Memory h = tt
at_among captures journal outputs (numbered.File file) h = inr (0, ap (λ (n : ℕ). Some n) (sym h))

-- the first line could not be read
pub is_unbegun : (before a b : Outside) (job : Job) (captures : List ℕ) (v : Feeding) (journal : ℕ) (outputs : List ℕ) (stop : RunFault) → IsJob before job → IsSized job → HasReady before a job captures v journal outputs → Keeps a.told b.told journal
    → StopsAt {T = Unit {0}} journal (Err stop) → IsStopCause {T = Unit {0}} a.counted b.counted (Err stop) → IsStopped (asked job) before b (stop_named (numbering before.told.next (ports_of job)) stop)
is_unbegun before a b job captures v journal outputs stop is sized h kept at cause =
    is_unjudged before a b job captures v journal outputs stop is sized h (others_one captures journal outputs a.told b.told kept) (at_among captures journal outputs stop at) cause

-- what follows the first line could not be judged
pub is_unended : (before a b : Outside) (job : Job) (captures : List ℕ) (v : Feeding) (begun : OpenedJournal) (outputs : List ℕ) (stop : RunFault) → IsJob before job → IsSized job → HasBegun before a job captures v begun outputs → KeepsOthers (captures ++ begun.lines.file ∷ outputs) a.told b.told
    → StopsAmong {T = ReplayResult} captures (begun.lines.file ∷ outputs) (Err stop) → IsStopCause {T = Unit {0}} a.counted b.counted (Err stop) → IsStopped (asked job) before b (stop_named (numbering before.told.next (ports_of job)) stop)
is_unended before a b job captures v begun outputs stop is sized h kept among cause =
    is_unjudged before h.old b job captures v begun.lines.file outputs stop is sized h.ready
    (others_both (captures ++ begun.lines.file ∷ outputs) h.old.told a.told b.told (others_one captures begun.lines.file outputs h.old.told a.told h.kept) kept)
    among (subst (λ (n : Counted). IsStopCause {T = Unit {0}} n b.counted (Err stop)) h.counted cause)

-- memory ran out behind the first line
pub unkept_begun : (before now : Outside) (job : Job) (captures : List ℕ) (v : Feeding) (begun : OpenedJournal) (outputs : List ℕ) → IsJob before job → HasBegun before now job captures v begun outputs → IsStopped (asked job) before now stops.Memory
unkept_begun before now job captures v begun outputs is h =
    let r = h.ready in
    let names = asked_by (asked job) in
    stopped_untouched (asked job) before now stops.Memory
    (record { contents = λ n. h.kept.contents n ∙ r.only.untouched.contents n; standard = λ g lt. h.kept.givens g ∙ r.only.untouched.standard g lt })
    (memory_behind (numbering before.told.next (ports_of job)) names names before.counted now.counted (front_all names) (h.counted ∙ r.only.asked))
    tt (due_others (asked job) before.told _ (fed_headers before r.mid job captures v is r.fed))

-- ---- what is told

-- nothing is printed
pub told_so : (before now : Outside) (job : Job) (came : ReplayResult) (checked : ReplayEnd) → HasCome before now job came → checked ≡ checked_by (asked job).most came → printed_by (function_of job.func.now) came ≡ [] → IsChecked (asked job) before now checked
told_so before now job came checked h is none = record {
  function = function_of job.func.now;
  came = came;
  replayed = h.replayed;
  checked_is = is;
  contents = h.contents;
  stdout = nothing (before.told.given 0) (now.told.given 0) (printed_by (function_of job.func.now) came) none h.stdout;
  stderr = h.stderr;
  asked = h.asked_for;
}
  where
    same : (o : Option (List ℕ)) (piece : List ℕ) → piece ≡ [] → Gains piece o o
    same None piece e = tt
    same (Some xs) piece e = sym (ap (λ (t : List ℕ). xs ++ t) e ∙ append-nil xs)

    nothing : (x y : Option (List ℕ)) (piece : List ℕ) → piece ≡ [] → y ≡ x → Gains piece x y
    nothing x y piece e is = subst (Gains piece x) (sym is) (same x piece e)

-- the last state's text was printed
pub printed_whole : (before a b : Outside) (job : Job) (state : State) (text : List ℕ) → HasCome before a job (came.Same state) → text ≡ state_text (function_of job.func.now) state → IsPrinted a b text → IsChecked (asked job) before b (checked_by (asked job).most (came.Same state))
printed_whole before a b job state text h is p = record {
  function = function_of job.func.now;
  came = came.Same state;
  replayed = h.replayed;
  checked_is = refl;
  contents = λ n. p.contents n ∙ h.contents n;
  stdout = subst (λ (t : List ℕ). Printed before.told b.told 0 t) is (subst (λ (o : Option (List ℕ)). Gains text o (b.told.given 0)) h.stdout p.stdout);
  stderr = p.stderr ∙ h.stderr;
  asked = p.counted ∙ h.asked_for;
}

print_stops : (before : Outside) (job : Job) (a b : Counted) (stop : CallFault) → 2 ≤ before.told.next → a ≡ asking (asked_by (asked job)) before.counted → IsPrintCause a b stop → StopsBy (numbering before.told.next (ports_of job)) (asked_by (asked job)) before.counted b stop
print_stops before job a b (stops.File file) two so_far cause = record {
  front = asked_by (asked job);
  is_front = front_all (asked_by (asked job));
  cause = record {
    number = 0;
    faulted = inl (subst (λ (c : Counted). Faulted c b 0) so_far cause.1);
    file_is = cause.0 ∙ sym (file_stdout Read before.told.next (ports_of job) (ports_of job) two);
    number_is = sym (ap (number_of Read before.told.next (ports_of job) (ports_of job)) cause.0);
  };
}
print_stops before job a b stops.Memory two so_far cause = memory_behind (numbering before.told.next (ports_of job)) (asked_by (asked job)) (asked_by (asked job)) before.counted b (front_all (asked_by (asked job))) (cause ∙ so_far)

known_printed : (before : Outside) (now : Told) (job : Job) (a b : Counted) (stop : CallFault) → KnowsSame (asked job) before.told → IsPrintCause a b stop → IsKnown (asked job) before.told now stop
known_printed before now job a b (stops.File file) same cause = subst (KnownAt (asked job) before.told now) (sym cause.0) same
known_printed before now job a b stops.Memory same cause = tt

come_headers : (before now : Outside) (job : Job) (came : ReplayResult) → HasCome before now job came → KnowsHeaders (asked job) before.told
come_headers before now job came h = record { ports = record { function = function_of job.func.now; has_ports = h.replayed.has_ports }; captures = h.replayed.captures }

-- a front of it was
pub printed_half : (before a b : Outside) (job : Job) (state : State) (text : List ℕ) (stop : CallFault) → 2 ≤ before.told.next → HasCome before a job (came.Same state) → text ≡ state_text (function_of job.func.now) state → IsHalfPrinted a b text stop → IsStopped (asked job) before b stop
printed_half before a b job state text stop two h same p = record {
  contents = λ n. p.contents n ∙ h.contents n;
  stdout = inr (record {
    function = function_of job.func.now;
    state = state;
    replayed = h.replayed;
    printed = subst (λ (t : List ℕ). PrintedFront before.told b.told 0 t) same (record {
      front = p.stdout.front;
      is_front = p.stdout.is_front;
      part = p.stdout.part;
      printed = subst (λ (o : Option (List ℕ)). Gains p.stdout.front o (b.told.given 0)) h.stdout p.stdout.printed;
    });
  });
  stderr = p.stderr ∙ h.stderr;
  stops = print_stops before job a.counted b.counted stop two h.asked_for p.cause;
  known = known_printed before b.told job a.counted b.counted stop (record { function = function_of job.func.now; state = state; replayed = h.replayed }) p.cause;
  due = due_others (asked job) before.told _ (come_headers before a job (came.Same state) h);
}

-- memory ran out
pub unkept_come : (before now : Outside) (job : Job) (came : ReplayResult) → HasCome before now job came → IsStopped (asked job) before now stops.Memory
unkept_come before now job came h = record {
  contents = h.contents;
  stdout = inl h.stdout;
  stderr = h.stderr;
  stops = memory_behind (numbering before.told.next (ports_of job)) (asked_by (asked job)) (asked_by (asked job)) before.counted now.counted (front_all (asked_by (asked job))) h.asked_for;
  known = tt;
  due = due_others (asked job) before.told _ (come_headers before now job came h);
}
