-- Whole runs: what was handled is one lawful run, or the front of one.
use Rattle.std.proofs.Common.{◌≡◌, ℕ, zero, suc, ◌+◌, ◌-◌, ◌≤◌, Bool, List, [], ◌∷◌, ◌++◌, length, map, take, Option, Some, None, Result, Ok, Err, ◌⊎◌, inl, inr, refl, sym, ap, ◌∙◌, subst, append-nil, zero-add, arith}
use Rattle.std.specs.List.{AllByRecursion, slice_get}
use Rattle.std.proofs.lemmas.List.{map-append, length-map, length-append, take_all, take_at, nil_from_length}
use Rattle.std.proofs.lemmas.List.Elements.{All-from_recursion, recursion_from_All}
use Rattle.std.proofs.lemmas.List.Sorted.{All-permutation}
use Rattle.nf_base.specs.Text.{Function}
use Rattle.nf_base.specs.Step.{opening}
use Rattle.nf_base.specs.Runs.{Handling, run}
use Rattle.nf_base.specs.declared.state.State.{State}
use Rattle.nf_base.specs.declared.packet.Fields.{Fields}
use Rattle.nf_base.specs.declared.card.Card.{Card}
use Rattle.capture_format.specs.declared.format.CaptureFormat.{CaptureFormat}
use Rattle.nf_base.specs.declared.packet.Packet.{Packet}
use Rattle.nf_base.specs.Doors.{six_ports, IsServed}
use Rattle.nf_laws.specs.Steps.{HasHandler, skips, handles}
use Rattle.nf_files.specs.Told.{Told, IsToldAs, IsEmptyIfTold}
use Rattle.packet_feed.specs.Arrivals.{Arrival}
use Rattle.shard_laws.specs.Queues.{Throughout}
use Rattle.packet_feed.specs.Order.{in_order}
use Rattle.packet_feed.specs.Told.{packets_of}
use Rattle.packet_feed.specs.Sources.{files_in, sixes_in}
use Rattle.packet_feed.specs.Feeding.{Feeding, AreAll, HasMore}
use Rattle.packet_feed.proofs.Ordering.{is_ordered}
use Rattle.packet_feed.proofs.Gathering.{AllIn}
use Rattle.packet_feed.proofs.Served.{all_served}
use Rattle.run_history.specs.declared.line.Mode.{Mode}
use Rattle.run_history.specs.declared.line.Mode.TheVariants.{One}
use Rattle.stream_run.specs.declared.ending.Ending.{Ending}
use Rattle.stream_run.specs.declared.ending.Ending.TheVariants as ending
use Rattle.stream_run.specs.declared.ran.Ran.{Ran}
use Rattle.stream_run.specs.declared.fault.RunFault.{RunFault}
use Rattle.stream_run.specs.Runs.{Turn, Handled, course_of, arrival_in, handling_of, turn_of, run_of, handled_in, paired, longer}
use Rattle.stream_run.specs.Texts.{file_bytes, bytes_of, head}
use Rattle.stream_run.specs.Writing.{Holding, Holds, IsFrontIfTold, files_of, AreHeld, AreFronts, AreEmpty}
use Rattle.stream_run.specs.Streaming.{IsUndivided, handling_in, result_in, arrival_of, AreFirst, IsEnding, Halts, Ends}
use Rattle.stream_run.specs.Lawful.{AreTheFirst, IsRunOver, EndsSo, IsFinished, HoldsFronts, IsCutShort, Runs, Finishes, Streams}
use Rattle.stream_run.specs.Orders.{Keeps}
use Rattle.stream_run.specs.Rules.{Rule, KeepsBy, one_rule, IsRunBy, AreBy}
use Rattle.stream_run.proofs.Going.{go_on, handled_is}
use Rattle.stream_run.proofs.Stepping.{all_turned, always}
use Rattle.stream_run.proofs.Bytes.{bytes_none, only_grow}
use Rattle.stream_run.proofs.Held.{front_all, front_longer, stays_in, file_at}
use Rattle.stream_run.proofs.Reached.{first_given}

-- what stands at the end of a list, or before it
pub got_end : {A : Type 0} (xs : List A) (y : A) (j : ℕ) (z : A) → slice_get (xs ++ y ∷ []) j ≡ Some z → ((j ≡ length xs) × (y ≡ z)) ⊎ (slice_get xs j ≡ Some z)
got_end [] y zero z e = inl (refl, cc)
got_end [] y (suc j) z e = absurd cc
got_end (x ∷ xs) y zero z e = inr e
got_end (x ∷ xs) y (suc j) z e = elim (got_end xs y j z e) [
  | inl here ↦ inl (omega (arith, here.0), here.1)
  | inr there ↦ inr there
]

-- ---- the run of packets that were handled

pub same_handlings : (hs : List Handled) → map handling_of (map turn_of hs) ≡ map handling_in hs
same_handlings [] = refl
same_handlings (h ∷ hs) = ap (λ (t : List Handling). handling_in h ∷ t) (same_handlings hs)

pub same_arrivals : (hs : List Handled) → map arrival_in (map turn_of hs) ≡ map arrival_of hs
same_arrivals [] = refl
same_arrivals (h ∷ hs) = ap (λ (t : List Arrival). h.arrival ∷ t) (same_arrivals hs)

paired_again : (hs : List Handled) → paired (map turn_of hs) (map (λ (h : Handled). h.done) hs) ≡ hs
paired_again [] = refl
paired_again (h ∷ hs) = ap (λ (t : List Handled). h ∷ t) (paired_again hs)

pub ran_of : (f : Function) (mode : Mode) (workers : ℕ) (card : Card) (hs : List Handled) (state : State) → IsUndivided f hs state → course_of (run_of f mode workers card hs) ≡ Some (result_in hs state)
ran_of f mode workers card hs state u = ap (run f (opening f)) (same_handlings hs) ∙ u

pub handled_of : (f : Function) (mode : Mode) (workers : ℕ) (card : Card) (hs : List Handled) (state : State) → IsUndivided f hs state → handled_in (run_of f mode workers card hs) ≡ hs
handled_of f mode workers card hs state u = handled_is (run_of f mode workers card hs) (result_in hs state) (ran_of f mode workers card hs state u) ∙ paired_again hs

pub bytes_are : (f : Function) (mode : Mode) (workers : ℕ) (card : Card) (format : CaptureFormat) (hs : List Handled) (state : State) (k : ℕ) → IsUndivided f hs state → file_bytes format (run_of f mode workers card hs) k ≡ bytes_of mode workers card format (length f.handlers) k hs
bytes_are f mode workers card format hs state k u = ap (bytes_of mode workers card format (length f.handlers) k) (handled_of f mode workers card hs state u)

-- The run of packets that were handled by a rule: those given may stand in another order, which these
-- keep.
pub run_by : (rule : Rule) (f : Function) (mode : Mode) (workers : ℕ) (card : Card) (given : List Arrival) (hs : List Handled) (state : State) → mode ≡ rule.mode → workers ≡ rule.workers → AreBy rule f hs state → Keeps rule.order given (map arrival_of hs) → IsRunBy rule f card given (run_of f mode workers card hs)
run_by rule f mode workers card given hs state told counted a keeps = record {
  function = refl;
  mode = told;
  workers = counted;
  card_is = refl;
  own = all_turned (λ (t : Turn). t.worker ≡ rule.worker_of t.arrival.packet) hs a.own;
  order = subst (Keeps rule.order given) (sym (same_arrivals hs)) keeps;
  legal = record { result = result_in hs state; ran = ran_of f mode workers card hs state a.undivided };
  kept = subst (Throughout (KeepsBy rule f) f (opening f)) (sym (same_handlings hs)) a.kept;
}

-- by worker 0, of a run with one worker
alone_by : (f : Function) (hs : List Handled) (state : State) → IsUndivided f hs state → AllByRecursion (λ (h : Handled). h.worker ≡ 0) hs → AreBy one_rule f hs state
alone_by f hs state u alone = record { undivided = u; own = alone; kept = always (KeepsBy one_rule f) f (λ s h. tt) (opening f) (map handling_in hs) }

is_one : (f : Function) (card : Card) (most : ℕ) (all : Option (List Arrival)) (hs : List Handled) (state : State) → IsUndivided f hs state → AllByRecursion (λ (h : Handled). h.worker ≡ 0) hs → length hs ≤ most → AreTheFirst most all (map arrival_of hs) → IsRunOver one_rule f card most all (run_of f One 1 card hs)
is_one f card most all hs state u alone within first = record {
  given = map arrival_of hs;
  is_run = run_by one_rule f One 1 card (map arrival_of hs) hs state refl refl (alone_by f hs state u alone) refl;
  within = omega (arith, length-map hs arrival_of, within);
  packets = first;
}

-- ---- a run that nothing stopped

pub first_most : (e : Ending) (all : Option (List Arrival)) (given : List Arrival) (count most : ℕ) → AreFirst all given → count ≤ most → length given ≡ count → ((e ≡ ending.All) × AreAll all given) ⊎ ((e ≡ ending.TooMany) × (count ≡ most)) → AreTheFirst most all given
first_most e None given count most first le long how = tt
first_most e (Some all) given count most first le long (inl how) =
    let whole : length (in_order all) ≤ most = omega (arith, ap (λ (t : List Arrival). length t) how.1) in
    sym (take_all most (in_order all) whole ∙ how.1)
first_most e (Some all) given count most first le long (inr how) =
    sym (ap (take most) first.1 ∙ take_at given first.0 most (omega (arith, how.1)))

pub how_ended : (e : Ending) (feed : Feeding) (before : Told) (hs : List Handled) (most : ℕ) → feed.most ≡ most → IsEnding e feed before hs
    → ((e ≡ ending.All) × AreAll (packets_of (sixes_in feed.sources) (files_in feed.sources) before) (map arrival_of hs)) ⊎ ((e ≡ ending.TooMany) × (length hs ≡ most))
how_ended ending.All feed before hs most same h = inl (refl, h.0)
how_ended ending.TooMany feed before hs most same h = inr (refl, h.0 ∙ same)

pub ends_so : (e : Ending) (feed : Feeding) (before : Told) (hs : List Handled) → IsEnding e feed before hs → EndsSo e feed before (map arrival_in (map turn_of hs))
ends_so ending.All feed before hs h = (subst (AreAll (packets_of (sixes_in feed.sources) (files_in feed.sources) before)) (sym (same_arrivals hs)) h.0, h.1)
ends_so ending.TooMany feed before hs h =
    let long : length (map arrival_in (map turn_of hs)) ≡ length hs = length-map (map turn_of hs) arrival_in ∙ length-map hs turn_of in
    (long ∙ h.0, subst (λ (n : ℕ). HasMore (packets_of (sixes_in feed.sources) (files_in feed.sources) before) n) (sym long) h.1)

finished : (f : Function) (card : Card) (format : CaptureFormat) (begun : Feeding) (start : Told) (feed : Feeding) (now : Told) (files : List ℕ) (ran : Ran) → Finishes f card format (length f.handlers) begun start feed now files ran.ending ran.packets ran.state → IsFinished f card format begun start feed now files ran
finished f card format begun start feed now files ran h = record {
  run = run_of f One 1 card h.hs;
  some = is_one f card begun.most None h.hs ran.state h.undivided h.alone h.within tt;
  same_files = h.same_files;
  same_six = h.same_six;
  same_most = h.same_most;
  lawful = λ before b.
      let how = how_ended ran.ending feed before h.hs begun.most h.same_most (h.ending_is before b) in
      let by_file = subst (λ (fs : List ℕ). ((ran.ending ≡ ending.All) × AreAll (packets_of (sixes_in feed.sources) fs before) (map arrival_of h.hs)) ⊎ ((ran.ending ≡ ending.TooMany) × (length h.hs ≡ begun.most))) h.same_files how in
      let moved = subst (λ (bs : List Bool). ((ran.ending ≡ ending.All) × AreAll (packets_of bs (files_in begun.sources) before) (map arrival_of h.hs)) ⊎ ((ran.ending ≡ ending.TooMany) × (length h.hs ≡ begun.most))) h.same_six by_file in
      is_one f card begun.most (packets_of (sixes_in begun.sources) (files_in begun.sources) before) h.hs ran.state h.undivided h.alone h.within
      (first_most ran.ending (packets_of (sixes_in begun.sources) (files_in begun.sources) before) (map arrival_of h.hs) (length h.hs) begun.most (h.first before b) h.within (length-map h.hs arrival_of) moved);
  ending = λ before b. ends_so ran.ending feed before h.hs (h.ending_is before b);
  count = length-map h.hs turn_of ∙ h.count;
  left = (map (λ (x : Handled). x.done) h.hs, ran_of f One 1 card h.hs ran.state h.undivided);
  wholes = λ k file e. subst (λ (t : List ℕ). IsToldAs t (now.given file)) (sym (bytes_are f One 1 card format h.hs ran.state k h.undivided)) (h.wholes k file e);
}

-- ---- a run that was stopped

take_past : {A : Type 0} (xs ys : List A) (n : ℕ) → take (length xs + n) (xs ++ ys) ≡ xs ++ take n ys
take_past [] ys n = ap (λ (m : ℕ). take m ys) (zero-add n)
take_past {A = A} (x ∷ xs) ys n = let e : suc (length xs) + n ≡ suc (length xs + n) = omega arith in rw e (ap (λ (t : List A). x ∷ t) (take_past xs ys n))

all_later : {A : Type 0} (P : A → Type 0) (xs ys : List A) → AllByRecursion P (xs ++ ys) → AllByRecursion P ys
all_later P [] ys h = h
all_later P (x ∷ xs) ys h = all_later P xs ys h.1

all_taken : {A : Type 0} (P : A → Type 0) (n : ℕ) (xs : List A) → AllByRecursion P xs → AllByRecursion P (take n xs)
all_taken P zero xs h = tt
all_taken P (suc n) [] h = tt
all_taken P (suc n) (x ∷ xs) h = (h.0, all_taken P n xs h.1)

has_handler : (f : Function) (packet : Packet) (fields : Option Fields) → packet.fields ≡ fields → IsServed f packet → HasHandler f packet
has_handler f packet None e h = skips e
has_handler f packet (Some fields) e h = handles fields e (h fields e)

with_handlers : (f : Function) (as_list : List Arrival) → AllByRecursion (λ (a : Arrival). IsServed f a.packet) as_list → AllByRecursion (λ (a : Arrival). HasHandler f a.packet) as_list
with_handlers f [] h = tt
with_handlers f (a ∷ as_list) h = (has_handler f a.packet a.packet.fields refl h.0, with_handlers f as_list h.1)

taken_within : {A : Type 0} (n : ℕ) (xs : List A) → length (take n xs) ≤ n
taken_within zero xs = omega arith
taken_within (suc n) [] = omega arith
taken_within (suc n) (x ∷ xs) = omega (arith, taken_within n xs)

alone_later : (ts later : List Turn) → AllByRecursion (λ (t : Turn). t.worker ≡ 0) ts → AllByRecursion (λ (t : Turn). t.worker ≡ 0) later → AllByRecursion (λ (t : Turn). t.worker ≡ 0) (ts ++ later)
alone_later [] later h k = k
alone_later (t ∷ ts) later h k = (h.0, alone_later ts later h.1 k)

fronts_of : (f : Function) (card : Card) (format : CaptureFormat) (hs : List Handled) (state : State) (now : Told) (files : List ℕ) → IsUndivided f hs state → AreFronts One 1 card format (length f.handlers) hs now files → (k file : ℕ) → slice_get files k ≡ Some file → IsFrontIfTold (file_bytes format (run_of f One 1 card hs) k) (now.given file)
fronts_of f card format hs state now files u fronts k file e = subst (λ (t : List ℕ). IsFrontIfTold t (now.given file)) (sym (bytes_are f One 1 card format hs state k u)) (fronts k file e)

holds_fronts : (f : Function) (card : Card) (format : CaptureFormat) (most : ℕ) (all : Option (List Arrival)) (hs : List Handled) (state : State) (now : Told) (files : List ℕ) → IsUndivided f hs state → AllByRecursion (λ (h : Handled). h.worker ≡ 0) hs → length hs ≤ most
    → AreFirst all (map arrival_of hs) → AllIn (λ (a : Arrival). IsServed f a.packet) all → AreFronts One 1 card format (length f.handlers) hs now files → HoldsFronts f card format most all now files
holds_fronts f card format most None hs state now files u alone within first served fronts = record {
  run = run_of f One 1 card hs;
  is_run = is_one f card most None hs state u alone within tt;
  fronts = fronts_of f card format hs state now files u fronts;
}
holds_fronts f card format most (Some all) hs state now files u alone within first served fronts =
    let r = run_of f One 1 card hs in
    let given = map arrival_of hs in
    let one = run_by one_rule f One 1 card given hs state refl refl (alone_by f hs state u alone) refl in
    let more = take (most - length given) first.0 in
    let P : Arrival → Type 0 = λ a. IsServed f a.packet in
    let ordered : AllByRecursion P (in_order all) = recursion_from_All P (in_order all) (All-permutation P all (in_order all) (is_ordered all).each_once (All-from_recursion P all served)) in
    let later_served : AllByRecursion P more = all_taken P (most - length given) first.0 (all_later P given first.0 (subst (λ (t : List Arrival). AllByRecursion P t) first.1 ordered)) in
    let on = go_on r more (λ a. 0) one.legal (All-from_recursion (λ (a : Arrival). HasHandler f a.packet) more (with_handlers f more later_served)) in
    let long : length given ≡ length hs = length-map hs arrival_of in
    let whole : take most (in_order all) ≡ given ++ more =
    ap (take most) first.1 ∙ ap (λ (m : ℕ). take m (given ++ first.0)) (let e : most ≡ length given + (most - length given) = omega arith in e) ∙ take_past given first.0 (most - length given) in
    record {
      run = longer r on.0;
      is_run = record {
        given = given ++ more;
        is_run = record {
          function = refl;
          mode = refl;
          workers = refl;
          card_is = refl;
          own = alone_later r.turns on.0 one.own (recursion_from_All (λ (t : Turn). t.worker ≡ 0) on.0 on.1.1);
          order = map-append arrival_in r.turns on.0 ∙ ap (λ (t : List Arrival). t ++ map arrival_in on.0) (same_arrivals hs) ∙ ap (λ (t : List Arrival). given ++ t) on.1.0;
          legal = on.1.2;
          kept = always (KeepsBy one_rule f) f (λ s h. tt) (opening f) (map handling_of (r.turns ++ on.0));
        };
        within = omega (arith, length-append given more, taken_within (most - length given) first.0, long, within);
        packets = sym whole;
      };
      fronts = λ k file e. front_longer (file_bytes format r k) (file_bytes format (longer r on.0) k) (now.given file) (only_grow format r on.0 k one.legal on.1.2) (fronts_of f card format hs state now files u fronts k file e);
    }

pub cut_short : (f : Function) (card : Card) (format : CaptureFormat) (begun : Feeding) (start now : Told) (files : List ℕ) → length (files_in begun.sources) ≡ length f.handlers → sixes_in begun.sources ≡ six_ports f → Halts f card format (length f.handlers) begun start now files → IsCutShort f card format begun start now files
cut_short f card format begun start now files ports six h = record {
  some = holds_fronts f card format begun.most None h.hs h.state now files h.undivided h.alone h.within tt tt h.fronts;
  lawful = λ before b.
      let served : AllIn (λ (a : Arrival). IsServed f a.packet) (packets_of (sixes_in begun.sources) (files_in begun.sources) before) =
      subst (λ (bs : List Bool). AllIn (λ (a : Arrival). IsServed f a.packet) (packets_of bs (files_in begun.sources) before)) (sym six) (all_served f (files_in begun.sources) before ports) in
      holds_fronts f card format begun.most (packets_of (sixes_in begun.sources) (files_in begun.sources) before) h.hs h.state now files h.undivided h.alone h.within (h.first before b) served h.fronts;
}

-- ---- what is told of files

pub first_none : (all : Option (List Arrival)) → AreFirst all []
first_none None = tt
first_none (Some all) = (in_order all, refl)

pub empty_front : (bytes : List ℕ) (given : Option (List ℕ)) → IsEmptyIfTold given → IsFrontIfTold bytes given
empty_front bytes None h = tt
empty_front bytes (Some g) h = record { later = bytes; all = ap (λ (t : List ℕ). t ++ bytes) h }

fresh_held : (given : Option (List ℕ)) (held : List ℕ) → IsEmptyIfTold given → Holds held given held
fresh_held None held h = tt
fresh_held (Some g) held h = ap (λ (t : List ℕ). t ++ held) h

pub all_told : (bytes : List ℕ) (given : Option (List ℕ)) (held : List ℕ) → length held ≡ 0 → Holds bytes given held → IsToldAs bytes given
all_told bytes None held e h = tt
all_told bytes (Some g) held e h = sym (append-nil g) ∙ ap (λ (t : List ℕ). g ++ t) (sym (nil_from_length held e)) ∙ h

pub whole_front : (bytes : List ℕ) (given : Option (List ℕ)) → IsToldAs bytes given → IsFrontIfTold bytes given
whole_front bytes None h = tt
whole_front bytes (Some g) h = record { later = []; all = append-nil g ∙ h }

-- ---- what the code comes to

pub is_run : (f : Function) (card : Card) (format : CaptureFormat) (begun : Feeding) (start : Told) (feed : Feeding) (now : Told) (files : List ℕ) (result : Result Ran RunFault) → length (files_in begun.sources) ≡ length f.handlers → sixes_in begun.sources ≡ six_ports f → Streams f card format (length f.handlers) begun start feed now files result → Runs f card format begun start feed now files result
is_run f card format begun start feed now files (Ok ran) ports six h = finished f card format begun start feed now files ran h
is_run f card format begun start feed now files (Err stop) ports six h = cut_short f card format begun start now files ports six h

-- nothing was handled
pub halts_none : (f : Function) (card : Card) (format : CaptureFormat) (ports : ℕ) (begun : Feeding) (start : Told) (files : List ℕ) → ((k file : ℕ) → slice_get files k ≡ Some file → IsEmptyIfTold (start.given file)) → Halts f card format ports begun start start files
halts_none f card format ports begun start files empty = record {
  hs = [];
  state = opening f;
  undivided = refl;
  alone = tt;
  first = λ before b. first_none (packets_of (sixes_in begun.sources) (files_in begun.sources) before);
  within = omega arith;
  fronts = λ k file e. empty_front (bytes_of One 1 card format ports k []) (start.given file) (empty k file e);
}

pub heads_held : (mode : Mode) (workers : ℕ) (card : Card) (format : CaptureFormat) (ports : ℕ) (now : Told) (sinks : List Holding) (files : List ℕ) → files_of sinks ≡ files → ((k : ℕ) (s : Holding) → slice_get sinks k ≡ Some s → (s.format ≡ format) × (s.held ≡ head mode workers card format ports k)) → ((k file : ℕ) → slice_get files k ≡ Some file → IsEmptyIfTold (now.given file)) → AreHeld mode workers card format ports [] now sinks
heads_held mode workers card format ports now sinks files same heads empty k s e =
    let file = ap (λ (fs : List ℕ). slice_get fs k) (sym same) ∙ file_at sinks k s e in
    let begun = heads k s e in
    (begun.0, subst (λ (t : List ℕ). Holds t (now.given s.file) s.held) (begun.1 ∙ sym (bytes_none mode workers card format ports k)) (fresh_held (now.given s.file) s.held (empty k s.file file)))

pub empty_told : (mode : Mode) (workers : ℕ) (card : Card) (format : CaptureFormat) (ports : ℕ) (now : Told) (sinks : List Holding) (hs : List Handled) → AreHeld mode workers card format ports hs now sinks → AreEmpty sinks → (k file : ℕ) → slice_get (files_of sinks) k ≡ Some file → IsToldAs (bytes_of mode workers card format ports k hs) (now.given file)
empty_told mode workers card format ports now sinks hs held empty k file e =
    let s = stays_in sinks k file e in
    subst (λ (n : ℕ). IsToldAs (bytes_of mode workers card format ports k hs) (now.given n)) s.2 (all_told (bytes_of mode workers card format ports k hs) (now.given s.0.file) s.0.held (empty k s.0 s.1) (held k s.0 s.1).1)

pub halts_at : (f : Function) (card : Card) (format : CaptureFormat) (ports : ℕ) (begun : Feeding) (start : Told) (feed : Feeding) (now : Told) (sinks : List Holding) (state : State) (e : Ending) (new : Told) (files : List ℕ) → (h : Ends f card format ports begun start feed now sinks state e) → AreFronts One 1 card format ports h.reached.hs new files → Halts f card format ports begun start new files
halts_at f card format ports begun start feed now sinks state e new files h fronts = record {
  hs = h.reached.hs;
  state = state;
  undivided = h.reached.undivided;
  alone = h.reached.alone;
  first = λ before b. first_given before (map arrival_of h.reached.hs) feed begun now h.same_files h.same_six (h.reached.stands before b);
  within = omega (arith, h.reached.count, h.within, h.same_most);
  fronts = fronts;
}

pub finishes : (f : Function) (card : Card) (format : CaptureFormat) (ports : ℕ) (begun : Feeding) (start : Told) (feed : Feeding) (now : Told) (sinks : List Holding) (state : State) (e : Ending) (new : Told) (files : List ℕ) → (h : Ends f card format ports begun start feed now sinks state e) → ((k file : ℕ) → slice_get files k ≡ Some file → IsToldAs (bytes_of One 1 card format ports k h.reached.hs) (new.given file)) → Finishes f card format ports begun start feed new files e feed.given state
finishes f card format ports begun start feed now sinks state e new files h wholes = record {
  hs = h.reached.hs;
  undivided = h.reached.undivided;
  alone = h.reached.alone;
  first = λ before b. first_given before (map arrival_of h.reached.hs) feed begun now h.same_files h.same_six (h.reached.stands before b);
  ending_is = h.ending_is;
  same_files = h.same_files;
  same_six = h.same_six;
  same_most = h.same_most;
  within = omega (arith, h.reached.count, h.within, h.same_most);
  count = h.reached.count;
  wholes = wholes;
}

-- the state could not be told
pub halts_whole : (f : Function) (card : Card) (format : CaptureFormat) (ports : ℕ) (begun : Feeding) (start : Told) (feed : Feeding) (now : Told) (files : List ℕ) (e : Ending) (packets : ℕ) (state : State) → Finishes f card format ports begun start feed now files e packets state → Halts f card format ports begun start now files
halts_whole f card format ports begun start feed now files e packets state h = record {
  hs = h.hs;
  state = state;
  undivided = h.undivided;
  alone = h.alone;
  first = h.first;
  within = h.within;
  fronts = λ k file q. whole_front (bytes_of One 1 card format ports k h.hs) (now.given file) (h.wholes k file q);
}

-- the tables could not be made
pub halts_begun : (f : Function) (card : Card) (format : CaptureFormat) (ports : ℕ) (begun : Feeding) (start : Told) (sinks : List Holding) → AreHeld One 1 card format ports [] start sinks → Halts f card format ports begun start start (files_of sinks)
halts_begun f card format ports begun start sinks held = record {
  hs = [];
  state = opening f;
  undivided = refl;
  alone = tt;
  first = λ before b. first_none (packets_of (sixes_in begun.sources) (files_in begun.sources) before);
  within = omega arith;
  fronts = λ k file e.
      let s = stays_in sinks k file e in
      subst (λ (n : ℕ). IsFrontIfTold (bytes_of One 1 card format ports k []) (start.given n)) s.2 (front_all (bytes_of One 1 card format ports k []) (start.given s.0.file) s.0.held (held k s.0 s.1).1);
}

-- the same, of a function's ports as they are counted
pub is_run_at : (f : Function) (card : Card) (format : CaptureFormat) (n : ℕ) (begun : Feeding) (start : Told) (feed : Feeding) (now : Told) (files : List ℕ) (result : Result Ran RunFault) → n ≡ length f.handlers → length (files_in begun.sources) ≡ n → sixes_in begun.sources ≡ six_ports f → Streams f card format n begun start feed now files result → Runs f card format begun start feed now files result
is_run_at f card format n begun start feed now files result same ports six h =
    is_run f card format begun start feed now files result (ports ∙ same) six (subst (λ (m : ℕ). Streams f card format m begun start feed now files result) same h)

pub cut_short_at : (f : Function) (card : Card) (format : CaptureFormat) (n : ℕ) (begun : Feeding) (start now : Told) (files : List ℕ) → n ≡ length f.handlers → length (files_in begun.sources) ≡ n → sixes_in begun.sources ≡ six_ports f → Halts f card format n begun start now files → IsCutShort f card format begun start now files
cut_short_at f card format n begun start now files same ports six h = cut_short f card format begun start now files (ports ∙ same) six (subst (λ (m : ℕ). Halts f card format m begun start now files) same h)
