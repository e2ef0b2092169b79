-- Whole runs: what was handled is one run in mode `lock`, or in mode `one` where the gate refused, or the
-- front of one.
use Rattle.std.proofs.Common.{◌≡◌, ◌≢◌, ◌⊎◌, ⊎_elim, inl, inr, ℕ, ◌<◌, ◌≤◌, ◌==◌, Bool, true, false, List, [], ◌∷◌, length, map, filter, Some, Result, Ok, Err, refl, ap, sym, ◌∙◌, subst, arith, eq-eqb, ne_eqb, if◌then◌else◌}
use Rattle.std.specs.List.{slice_get}
use Rattle.std.specs.Prelude.{OnOk}
use Rattle.std.proofs.lemmas.List.{length-map}
use Rattle.nf_base.specs.declared.card.Card.{Card}
use Rattle.capture_format.specs.declared.format.CaptureFormat.{CaptureFormat}
use Rattle.nf_base.specs.declared.state.State.{State}
use Rattle.nf_base.specs.Text.{Function}
use Rattle.nf_base.specs.Step.{opening}
use Rattle.nf_files.specs.Told.{Told, IsToldAs, IsEmptyIfTold}
use Rattle.packet_feed.specs.Arrivals.{Arrival, packet_of}
use Rattle.packet_feed.specs.Told.{packets_of}
use Rattle.packet_feed.specs.Sources.{files_in, sixes_in}
use Rattle.packet_feed.specs.Feeding.{Feeding, StandsFor, AreAll}
use Rattle.run_history.specs.declared.line.Mode.{Mode}
use Rattle.run_history.specs.declared.line.Mode.TheVariants.{One, Lock}
use Rattle.run_history.specs.Headings.{IsHeading}
use Rattle.lock_core.specs.declared.call.Ordered.{Ordered}
use Rattle.lock_workers.specs.RunResult.{AreHandled}
use Rattle.stream_run.specs.declared.ending.Ending.{Ending}
use Rattle.stream_run.specs.declared.ending.Ending.TheVariants as ending
use Rattle.stream_run.specs.Runs.{Handled, turn_of, run_of}
use Rattle.stream_run.specs.Orders.{Order, Keeps}
use Rattle.stream_run.specs.Rules.{Rule, KeepsBy, lone_rule, lock_rule, IsRunBy}
use Rattle.stream_run.specs.Texts.{bytes_of}
use Rattle.stream_run.specs.Writing.{Holding, IsFrontIfTold, files_of, AreFronts, AreEmpty, AllGoOn, KeepsBut}
use Rattle.stream_run.specs.Streaming.{handling_in, arrival_of, AreFirst}
use Rattle.stream_run.specs.Lawful.{AreTheFirst, EndsSo}
use Rattle.stream_run.proofs.Stepping.{always}
use Rattle.stream_run.proofs.Complete.{ran_of, run_by, bytes_are, first_most, first_none, empty_front, empty_told}
use Rattle.stream_run.proofs.Reached.{first_given}
use Rattle.sharded_run.specs.Reading.{Gathers, IsOver}
use Rattle.locked_run.specs.declared.result.Settled.{Settled}
use Rattle.locked_run.specs.Locked.{IsDue}
use Rattle.locked_run.specs.Handled.{joined}
use Rattle.locked_run.specs.Going.{mode_of, AreSettled, AreWhole, Writes, AllWritten, IsHalted}
use Rattle.locked_run.specs.Lawful.{IsFinished, IsCutShort}
use Rattle.locked_run.proofs.Joining.{undivided_of, workers_are, ports_kept as each_port, all_zero, in_capture_order}
use Rattle.locked_run.proofs.Once.{stands_once}

-- ---- who handled packets

lock_mode : (w workers : ℕ) → w ≡ workers → mode_of w workers ≡ Lock
lock_mode w workers e = ap (λ (b : Bool). if b then Lock else One) (eq-eqb w workers e)

one_mode : (w workers : ℕ) → w ≢ workers → mode_of w workers ≡ One
one_mode w workers ne = ap (λ (b : Bool). if b then Lock else One) (ne_eqb w workers ne)

pub heading_of : (w workers : ℕ) (card : Card) → 1 < workers → workers ≤ 16 → IsHeading (record { mode = mode_of w workers; workers = workers; card = card })
heading_of w workers card several most = one (w == workers)
  where
    one : (b : Bool) → IsHeading (record { mode = if b then Lock else One; workers = workers; card = card })
    one true = record { least = omega (arith, several); most = most }
    one false = record { least = omega (arith, several); most = most }

pub settled_of : (f : Function) (workers : ℕ) (Refused : Type 0) (batch : List Arrival) (xs : List Ordered) (places : List ℕ) (state : State) (w : ℕ) → 1 < workers → AreHandled f w (map packet_of batch) xs places state → (w ≡ workers) ⊎ ((w ≡ 1) × Refused)
    → AreSettled f (mode_of w workers) workers Refused batch (joined batch xs places) state
settled_of f workers Refused batch xs places state w several h (inl e) =
    let g : AreHandled f workers (map packet_of batch) xs places state = subst (λ (n : ℕ). AreHandled f n (map packet_of batch) xs places state) e h in
    let hs = joined batch xs places in
    record {
      rule = lock_rule workers;
      due = inl refl;
      mode_is = lock_mode w workers e;
      are = record {
        undivided = undivided_of f batch xs places state g.at g.runs;
        own = workers_are f workers batch xs places state g;
        kept = always (KeepsBy (lock_rule workers) f) f (λ t x. tt) (opening f) (map handling_in hs);
      };
      order = each_port f workers batch xs places state g;
    }
settled_of f workers Refused batch xs places state w several h (inr r) =
    let g : AreHandled f 1 (map packet_of batch) xs places state = subst (λ (n : ℕ). AreHandled f n (map packet_of batch) xs places state) r.0 h in
    let one = r.0 in
    let hs = joined batch xs places in
    record {
      rule = lone_rule workers;
      due = inr (r.1, refl);
      mode_is = one_mode w workers (λ e. absurd (omega (arith, e, one, several)));
      are = record {
        undivided = undivided_of f batch xs places state g.at g.runs;
        own = all_zero hs (workers_are f 1 batch xs places state g);
        kept = always (KeepsBy (lone_rule workers) f) f (λ t x. tt) (opening f) (map handling_in hs);
      };
      order = in_capture_order f batch xs places state g;
    }

-- nothing was handled
pub halted_none : (f : Function) (workers : ℕ) (card : Card) (format : CaptureFormat) (Refused : Type 0) (ports : ℕ) (batch : List Arrival) (now : Told) (files : List ℕ) → ((k file : ℕ) → slice_get files k ≡ Some file → IsEmptyIfTold (now.given file)) → IsHalted f workers card format Refused ports batch now files
halted_none f workers card format Refused ports batch now files empty = record {
  mode = Lock;
  given = [];
  hs = [];
  state = opening f;
  some = inl refl;
  are = record {
    rule = lock_rule workers;
    due = inl refl;
    mode_is = refl;
    are = record { undivided = refl; own = tt; kept = tt };
    order = λ port. refl;
  };
  fronts = λ k file e. empty_front (bytes_of Lock workers card format ports k []) (now.given file) (empty k file e);
}

-- what was held is written
pub written_by : (T E : Type 0) (mode : Mode) (workers : ℕ) (card : Card) (format : CaptureFormat) (ports : ℕ) (hs : List Handled) (now : Told) (sinks : List Holding) (files : List ℕ) (result : Result T E) → files_of sinks ≡ files → AllGoOn mode workers card format ports hs now sinks result → OnOk result (AreEmpty sinks) → Writes mode workers card format ports hs now files result
written_by T E mode workers card format ports hs now sinks files (Ok x) same held empty = λ k file e. empty_told mode workers card format ports now sinks hs held empty k file (ap (λ (fs : List ℕ). slice_get fs k) same ∙ e)
written_by T E mode workers card format ports hs now sinks files (Err x) same fronts empty = subst (λ (fs : List ℕ). AreFronts mode workers card format ports hs now fs) same fronts

-- ---- the run of packets that were handled

-- how many workers the rule that is due tells
counted_by : (workers : ℕ) (Refused : Type 0) (rule : Rule) → IsDue workers Refused rule → workers ≡ rule.workers
counted_by workers Refused rule (inl e) = ap (λ (r : Rule). r.workers) (sym e)
counted_by workers Refused rule (inr e) = ap (λ (r : Rule). r.workers) (sym e.1)

run_in : (mode : Mode) (f : Function) (workers : ℕ) (card : Card) (Refused : Type 0) (given : List Arrival) (hs : List Handled) (state : State) → (s : AreSettled f mode workers Refused given hs state) → IsRunBy s.rule f card given (run_of f mode workers card hs)
run_in mode f workers card Refused given hs state s = run_by s.rule f mode workers card given hs state s.mode_is (counted_by workers Refused s.rule s.due) s.are s.order

all_pass : (as_list : List Arrival) → filter (λ (a : Arrival). true) as_list ≡ as_list
all_pass [] = refl
all_pass (a ∷ as_list) = ap (λ (xs : List Arrival). a ∷ xs) (all_pass as_list)

-- as many packets were handled as were given
same_count : (order : Order) (given : List Arrival) (hs : List Handled) → Keeps order given (map arrival_of hs) → length hs ≡ length given
same_count order given hs keeps =
    sym (length-map hs arrival_of)
    ∙ ap (λ (xs : List Arrival). length xs) (sym (all_pass (map arrival_of hs)))
    ∙ stands_once order given (map arrival_of hs) (λ a. true) keeps
    ∙ ap (λ (xs : List Arrival). length xs) (all_pass given)

-- ---- what was read

count_of : (ports : ℕ) (begun feed : Feeding) (start now : Told) (batch : List Arrival) → begun.given ≡ 0 → Gathers ports begun feed start now batch → feed.given ≡ length batch
count_of ports begun feed start now batch none g = let c = g.count in omega (arith, none, c)

given_within : (ports : ℕ) (begun feed : Feeding) (start now : Told) (batch : List Arrival) → begun.given ≡ 0 → Gathers ports begun feed start now batch → length batch ≤ begun.most
given_within ports begun feed start now batch none g =
    let c = count_of ports begun feed start now batch none g in
    let w = g.within (omega (arith, none)) in
    let m = g.same_most in
    omega (arith, c, w, m)

first_of : (ports : ℕ) (begun feed : Feeding) (start now before : Told) (batch : List Arrival) → Gathers ports begun feed start now batch → StandsFor before [] begun start → AreFirst (packets_of (sixes_in begun.sources) (files_in begun.sources) before) batch
first_of ports begun feed start now before batch g b = first_given before batch feed begun now g.same_files g.same_six (g.given before [] b)

how_read : (e : Ending) (ports : ℕ) (begun feed : Feeding) (start now before : Told) (batch : List Arrival) → begun.given ≡ 0 → Gathers ports begun feed start now batch → IsOver e begun start feed batch → StandsFor before [] begun start
    → ((e ≡ ending.All) × AreAll (packets_of (sixes_in begun.sources) (files_in begun.sources) before) batch) ⊎ ((e ≡ ending.TooMany) × (length batch ≡ begun.most))
how_read ending.All ports begun feed start now before batch none g over b =
    let by_file = subst (λ (fs : List ℕ). AreAll (packets_of (sixes_in feed.sources) fs before) batch) g.same_files (over before [] b).0 in
    inl (refl, subst (λ (bs : List Bool). AreAll (packets_of bs (files_in begun.sources) before) batch) g.same_six by_file)
how_read ending.TooMany ports begun feed start now before batch none g over b = inr (refl, sym (count_of ports begun feed start now batch none g) ∙ over.0 ∙ g.same_most)

the_first : (e : Ending) (ports : ℕ) (begun feed : Feeding) (start now before : Told) (batch : List Arrival) → begun.given ≡ 0 → Gathers ports begun feed start now batch → IsOver e begun start feed batch → StandsFor before [] begun start → AreTheFirst begun.most (packets_of (sixes_in begun.sources) (files_in begun.sources) before) batch
the_first e ports begun feed start now before batch none g over b =
    first_most e (packets_of (sixes_in begun.sources) (files_in begun.sources) before) batch (length batch) begun.most (first_of ports begun feed start now before batch g b) (given_within ports begun feed start now batch none g) refl (how_read e ports begun feed start now before batch none g over b)

ends_so : (e : Ending) (ports : ℕ) (begun feed : Feeding) (start now before : Told) (batch : List Arrival) → begun.given ≡ 0 → Gathers ports begun feed start now batch → IsOver e begun start feed batch → StandsFor before [] begun start → EndsSo e feed before batch
ends_so ending.All ports begun feed start now before batch none g over b = over before [] b
ends_so ending.TooMany ports begun feed start now before batch none g over b = (sym (count_of ports begun feed start now batch none g) ∙ over.0, over.1 before [] b)

-- ---- how a run ends

pub finished_of : (f : Function) (workers : ℕ) (card : Card) (format : CaptureFormat) (Refused : Type 0) (n ports : ℕ) (begun feed : Feeding) (start read now : Told) (files : List ℕ) (batch : List Arrival) (e : Ending) (settled : Settled) (packets : ℕ) → n ≡ length f.handlers → begun.given ≡ 0 → Gathers ports begun feed start read batch → IsOver e begun start feed batch
    → AllWritten f workers card format Refused n batch now files settled → packets ≡ feed.given → IsFinished f workers card format Refused begun start feed now files (record { mode = settled.mode; ran = record { ending = e; packets = packets; state = settled.state } })
finished_of f workers card format Refused n ports begun feed start read now files batch e settled packets same none g over w count =
    let mode = settled.mode in
    let u = w.are.are.undivided in
    record {
      run = run_of f mode workers card w.hs;
      given = batch;
      rule = w.are.rule;
      due = w.are.due;
      is_run = run_in mode f workers card Refused batch w.hs settled.state w.are;
      mode_is = w.are.mode_is;
      within = given_within ports begun feed start read batch none g;
      packets = λ before b. the_first e ports begun feed start read before batch none g over b;
      ending = λ before b. ends_so e ports begun feed start read before batch none g over b;
      same_files = g.same_files;
      same_six = g.same_six;
      same_most = g.same_most;
      count = length-map w.hs turn_of ∙ same_count w.are.rule.order batch w.hs w.are.order ∙ sym (count_of ports begun feed start read batch none g) ∙ sym count;
      left = (map (λ (x : Handled). x.done) w.hs, ran_of f mode workers card w.hs settled.state u);
      wholes = λ k file at. subst (λ (t : List ℕ). IsToldAs t (now.given file)) (sym (bytes_are f mode workers card format w.hs settled.state k u)) (subst (λ (m : ℕ). AreWhole mode workers card format m w.hs now files) same w.wholes k file at);
    }

cut_at : (f : Function) (workers : ℕ) (card : Card) (format : CaptureFormat) (Refused : Type 0) (n : ℕ) (begun : Feeding) (start now : Told) (files : List ℕ) (batch : List Arrival) → n ≡ length f.handlers → (h : IsHalted f workers card format Refused n batch now files) → length h.given ≤ begun.most
    → ((before : Told) → StandsFor before [] begun start → AreFirst (packets_of (sixes_in begun.sources) (files_in begun.sources) before) h.given) → IsCutShort f workers card format Refused begun start now files
cut_at f workers card format Refused n begun start now files batch same h within first =
    let u = h.are.are.undivided in
    record {
      run = run_of f h.mode workers card h.hs;
      given = h.given;
      rule = h.are.rule;
      due = h.are.due;
      is_run = run_in h.mode f workers card Refused h.given h.hs h.state h.are;
      within = within;
      packets = first;
      fronts = λ k file at. subst (λ (t : List ℕ). IsFrontIfTold t (now.given file)) (sym (bytes_are f h.mode workers card format h.hs h.state k u)) (subst (λ (m : ℕ). AreFronts h.mode workers card format m h.hs now files) same h.fronts k file at);
    }

-- it was stopped before all packets were read
pub cut_none : (f : Function) (workers : ℕ) (card : Card) (format : CaptureFormat) (Refused : Type 0) (n : ℕ) (begun : Feeding) (start now : Told) (files : List ℕ) → n ≡ length f.handlers → ((k file : ℕ) → slice_get files k ≡ Some file → IsEmptyIfTold (now.given file)) → IsCutShort f workers card format Refused begun start now files
unfolding halted_none
cut_none f workers card format Refused n begun start now files same empty =
    let h = halted_none f workers card format Refused n [] now files empty in
    let none : length h.given ≡ 0 = refl in
    cut_at f workers card format Refused n begun start now files [] same h (omega (arith, none)) (λ before b. first_none (packets_of (sixes_in begun.sources) (files_in begun.sources) before))

-- it was stopped behind that
pub cut_short_of : (f : Function) (workers : ℕ) (card : Card) (format : CaptureFormat) (Refused : Type 0) (n ports : ℕ) (begun feed : Feeding) (start read now : Told) (files : List ℕ) (batch : List Arrival) → n ≡ length f.handlers → begun.given ≡ 0 → Gathers ports begun feed start read batch → IsHalted f workers card format Refused n batch now files → IsCutShort f workers card format Refused begun start now files
cut_short_of f workers card format Refused n ports begun feed start read now files batch same none g h =
    cut_at f workers card format Refused n begun start now files batch same h
    (⊎_elim (λ (e : h.given ≡ []). let l = ap (λ (xs : List Arrival). length xs) e in omega (arith, l)) (λ (e : h.given ≡ batch). let l = ap (λ (xs : List Arrival). length xs) e in let w = given_within ports begun feed start read batch none g in omega (arith, l, w)) h.some)
    (λ before b. ⊎_elim (λ (e : h.given ≡ []). subst (AreFirst (packets_of (sixes_in begun.sources) (files_in begun.sources) before)) (sym e) (first_none (packets_of (sixes_in begun.sources) (files_in begun.sources) before)))
    (λ (e : h.given ≡ batch). subst (AreFirst (packets_of (sixes_in begun.sources) (files_in begun.sources) before)) (sym e) (first_of ports begun feed start read before batch g b)) h.some)

-- nothing was given to a file that is still empty
pub still_empty : (old new : Told) (files : List ℕ) → KeepsBut [] old new → ((k file : ℕ) → slice_get files k ≡ Some file → IsEmptyIfTold (old.given file)) → (k file : ℕ) → slice_get files k ≡ Some file → IsEmptyIfTold (new.given file)
still_empty old new files kept empty k file e = subst IsEmptyIfTold (sym (kept.givens file (λ i d lt. absurd (omega (arith, lt))))) (empty k file e)
