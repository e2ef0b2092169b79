-- A run that creates its files, up to its end.
use Rattle.std.proofs.Common.{◌≡◌, ◌≢◌, ◌⊎◌, inl, inr, ℕ, ◌+◌, ◌<◌, ◌≤◌, Bool, List, [], ◌∷◌, ◌++◌, length, Some, slice_get, get_or, Ok, Err, if◌then◌else◌, refl, ap, sym, subst, ◌∙◌, append_assoc, arith}
use Rattle.std.proofs.lemmas.Bool.{le-leb, lt-leb}
use Rattle.std.proofs.lemmas.List.FromFn.{map-range_with_len_more}
use Rattle.std.proofs.lemmas.Option.{slice_get_within, slice_get-get_or}
use Rattle.capture_format.specs.declared.format.CaptureFormat.{CaptureFormat}
use Rattle.nf_base.specs.declared.done.Done.{Done}
use Rattle.nf_base.specs.declared.state.State.{State}
use Rattle.nf_files.specs.Told.{Told, IsToldAs, IsEmptyIfTold}
use Rattle.nf_files.specs.Pieces.{Gains}
use Rattle.nf_files.specs.Writes.{Writes, WritesFront}
use Rattle.nf_files.specs.Causes.{Counted, Asked, asking}
use Rattle.run_history.specs.StateText.{state_text}
use Rattle.stream_run.specs.Runs.{Run, course_of}
use Rattle.stream_run.specs.Texts.{file_bytes}
use Rattle.stream_run.specs.Writing.{IsFrontIfTold, IsStopCause, StopsAt, StopsAmong, KeepsBut}
use Rattle.stream_run.specs.declared.fault.RunFault.{RunFault}
use Rattle.stream_run.specs.declared.fault.RunFault.TheVariants as numbered
use Rattle.call_base.specs.declared.layout.FileOrder.TheVariants.{Created}
use Rattle.call_base.specs.declared.status.CallFault.{CallFault}
use Rattle.call_base.specs.declared.status.CallFault.TheVariants as stops
use Rattle.call_base.specs.Created.{Left, bytes_at, state_bytes, text_of}
use Rattle.call_base.specs.Far.{IsFar}
use Rattle.call_base.specs.Layout.{numbering, stop_named}
use Rattle.call_base.specs.Leaving.{IsBegun, IsPut, IsUncreated, IsHalfPut, IsOut, IsHalfOut, PutsTo, FinishesTo, Leaves, AreOf, HasCreated, HasMade, HasPrinted, IsBroken}
use Rattle.call_base.specs.Names.{name_at, writing, created_by}
use Rattle.call_base.specs.Numbers.{Numbering, IsFrontOf}
use Rattle.call_base.specs.Opened.{AreSomeCreated, AsksNext, AsksSome}
use Rattle.call_base.specs.Outside.{Outside, HasOnlyAsked}
use Rattle.call_base.specs.Printed.{PrintedFront}
use Rattle.call_base.specs.Reading.{AreFrom}
use Rattle.call_base.proofs.Asking.{asking_both, front_all, front_behind}
use Rattle.call_base.proofs.Layouts.{IsNumbered, own_created, own_printed, far_created, far_state, far_printed, running}
use Rattle.call_base.proofs.Leaving.{all_at, front_whole, left_run, left_begun, left_created, left_same, left_written, left_half, left_printed}
use Rattle.call_base.proofs.Naming.{names_apart}
use Rattle.call_base.proofs.Printing.{printed_front}
use Rattle.call_base.proofs.Reading.{got_at}
use Rattle.call_base.proofs.Stops.{stopped_behind, memory_behind, stopped_asking, stopped_next, front_both, created_front}

-- ---- the files of a run

-- they have names of their own
apart : (l : Leaves) (before : Outside) (run : Run) → AreOf l before run → (i j : ℕ) → i ≤ l.ports + 1 → j ≤ l.ports + 1 → i ≢ j → name_at l.format l.out l.ports i ≢ name_at l.format l.out l.ports j
apart l before run is i j within other ne = names_apart l.format l.out l.ports i j is.few within other ne

leaves : (format : CaptureFormat) (r : Run) (n k : ℕ) → length r.function.handlers ≡ n → k ≤ n → bytes_at format r k ≡ file_bytes format r k
leaves format r n k same le = ap (λ (b : Bool). if b then file_bytes format r k else state_bytes r) (le-leb k (length r.function.handlers) (omega (arith, le, same)))

-- the text of the last state is what a run leaves in its last file
pub last_bytes : (format : CaptureFormat) (r : Run) (n : ℕ) (state : State) (answers : List Done) → length r.function.handlers ≡ n → course_of r ≡ Some (record { state = state; answers = answers }) → bytes_at format r (n + 1) ≡ state_text r.function state
last_bytes format r n state answers same left =
    ap (λ (b : Bool). if b then file_bytes format r (n + 1) else state_bytes r) (lt-leb (n + 1) (length r.function.handlers) (omega (arith, same))) ∙ ap (text_of r.function) left

abbrev all_names : Leaves → List Asked
all_names l = l.inputs ++ created_by l.format l.out l.ports (l.ports + 2)

-- ---- the outputs and the journal

target_at : (targets : List ℕ) (n next base k : ℕ) → length targets ≡ n → next ≡ base → ((i f : ℕ) → slice_get targets i ≡ Some f → f ≡ next + i) → k < n → slice_get targets k ≡ Some (base + k)
target_at targets n next base k all at numbers lt =
    let f = got_at targets k (omega (arith, lt, all)) in f.1 ∙ ap Some (numbers k f.0 f.1 ∙ ap (λ (m : ℕ). m + k) at)

pub targets_from : {l : Leaves} {before now : Outside} {targets : List ℕ} → HasCreated l before now targets → AreFrom l.base targets (l.ports + 1)
targets_from {targets = targets} h = λ k f e. (omega (arith, h.created.numbers k f e, h.next), omega (arith, slice_get_within targets k f e, h.created.all))

pub targets_empty : {l : Leaves} {before now : Outside} {targets : List ℕ} → HasCreated l before now targets → (k file : ℕ) → slice_get targets k ≡ Some file → IsEmptyIfTold (now.told.given file)
targets_empty {now = now} {targets = targets} h k file e =
    subst (λ (n : ℕ). IsEmptyIfTold (now.told.given n)) (sym (h.created.numbers k file e)) (h.created.created.empties k (omega (arith, slice_get_within targets k file e, h.created.all)))

-- the number that was given last is that of the journal
pub last_is : {l : Leaves} {before a : Outside} {targets : List ℕ} {next : ℕ} (ports : ℕ) → HasCreated l before a targets → next ≡ a.told.next → ports ≡ l.ports → next ≡ get_or targets ports 0 + 1
last_is {targets = targets} ports h same is =
    let at = h.created.numbers ports (get_or targets ports 0) (slice_get-get_or targets ports 0 (omega (arith, h.created.all, is))) in
    omega (arith, same, h.created.created.next, at, is)

left_made : (l : Leaves) (before a b : Outside) (targets : List ℕ) (run : Run) (full : ℕ) → AreOf l before run → (h : HasCreated l before a targets) → KeepsBut targets a.told b.told → ((k file : ℕ) → slice_get targets k ≡ Some file → IsFrontIfTold (file_bytes l.format run k) (b.told.given file))
    → full ≤ l.ports + 1 → ((k file : ℕ) → k < full → slice_get targets k ≡ Some file → IsToldAs (file_bytes l.format run k) (b.told.given file)) → Left before.told b.told l.base (name_at l.format l.out l.ports) (bytes_at l.format run) (l.ports + 1) full
left_made l before a b targets run full is h kept fronts within wholes =
    let n = l.ports in
    let got = λ (k : ℕ) (lt : k < n + 1). target_at targets (n + 1) h.old.told.next l.base k h.created.all h.next h.created.numbers lt in
    left_run before.told h.old.told a.told b.told l.base (name_at l.format l.out n) (bytes_at l.format run) targets (n + 1) full h.only.untouched.contents h.next h.created
    (λ i j lt less ne. apart l before run is i j (omega (arith, lt)) (omega (arith, less)) ne) kept
    (λ k file e. subst (λ (t : List ℕ). IsFrontIfTold t (b.told.given file)) (sym (leaves l.format run n k is.ports (omega (arith, slice_get_within targets k file e, h.created.all)))) (fronts k file e))
    (λ k lt. subst (λ (t : List ℕ). IsToldAs t (b.told.given (l.base + k))) (sym (leaves l.format run n k is.ports (omega (arith, lt, within)))) (wholes k (l.base + k) lt (got k (omega (arith, lt, within)))))
    within got

-- a standard output is none of them
standard_made : (l : Leaves) (before a b : Outside) (targets : List ℕ) (run : Run) (g : ℕ) → AreOf l before run → (h : HasCreated l before a targets) → KeepsBut targets a.told b.told → g < 2 → b.told.given g ≡ before.told.given g
standard_made l before a b targets run g is h kept lt =
    kept.givens g (all_at (λ (f : ℕ). f ≢ g) targets (λ k f e z. omega (arith, z, lt, (targets_from h k f e).0, is.base_is, is.from_two)))
    ∙ h.created.created.givens g (omega (arith, lt, h.next, is.base_is, is.from_two)) ∙ h.only.untouched.standard g lt

asked_made : (l : Leaves) (before a : Outside) (targets : List ℕ) → HasCreated l before a targets → a.counted ≡ asking (l.inputs ++ created_by l.format l.out l.ports (l.ports + 1)) before.counted
asked_made l before a targets h =
    h.asked_for ∙ ap (asking (created_by l.format l.out l.ports (l.ports + 1))) h.only.asked ∙ asking_both l.inputs (created_by l.format l.out l.ports (l.ports + 1)) before.counted

-- packets were handled, and all of these files are whole
pub has_made : (l : Leaves) (before a b : Outside) (targets : List ℕ) (run : Run) → AreOf l before run → HasCreated l before a targets → KeepsBut targets a.told b.told → b.counted ≡ a.counted → ((k file : ℕ) → slice_get targets k ≡ Some file → IsToldAs (file_bytes l.format run k) (b.told.given file)) → HasMade l before b run (l.ports + 1) (l.ports + 1)
has_made l before a b targets run is h kept counted wholes = record {
  files = left_made l before a b targets run (l.ports + 1) is h kept (λ k file e. front_whole (file_bytes l.format run k) (b.told.given file) (wholes k file e)) (omega arith) (λ k file lt e. wholes k file e);
  stdout = standard_made l before a b targets run 0 is h kept (omega arith);
  stderr = standard_made l before a b targets run 1 is h kept (omega arith);
  asked_for = counted ∙ asked_made l before a targets h;
}

-- the run was stopped
pub broken_running : (l : Leaves) (ended : ℕ → ℕ → Type 0) (stated printed : Type 0) (before a b : Outside) (captures targets : List ℕ) (run : Run) (stop : RunFault) → AreOf l before run → (h : HasCreated l before a targets) → AreFrom (before.told.next + 1) captures l.captures → KeepsBut targets a.told b.told
    → ((k file : ℕ) → slice_get targets k ≡ Some file → IsFrontIfTold (file_bytes l.format run k) (b.told.given file)) → IsStopCause {T = Unit {0}} a.counted b.counted (Err stop) → StopsAmong {T = Unit {0}} captures targets (Err stop)
    → IsBroken l ended stated printed before b run (stop_named (numbering Created before.told.next l.captures l.ports) stop)
broken_running l ended stated printed before a b captures targets run stop is h from kept fronts cause among =
    let at = running (ended (l.ports + 1) 0) stated before.told.next l.captures l.ports captures targets stop is.from_two from (λ k f e. (omega (arith, (targets_from h k f e).0, is.base_is), (targets_from h k f e).1)) among in
    record {
      made = l.ports + 1;
      full = 0;
      within = omega arith;
      files = left_made l before a b targets run 0 is h kept fronts (omega arith) (λ k file lt e. absurd (omega (arith, lt)));
      far = at.1;
      last = λ lt. absurd (omega (arith, lt));
      stdout = inl (standard_made l before a b targets run 0 is h kept (omega arith));
      stderr = standard_made l before a b targets run 1 is h kept (omega arith);
      stops = stopped_behind (numbering Created before.told.next l.captures l.ports) (all_names l) (l.inputs ++ created_by l.format l.out l.ports (l.ports + 1)) before.counted a.counted b.counted stop at.0
          (created_front l.inputs l.format l.out l.ports (l.ports + 1) (l.ports + 2) (omega arith)) (asked_made l before a targets h) cause;
    }

at_creating : (ended stated : Type 0) (first captures ports : ℕ) (a b : Told) (name : ℕ → List ℕ) (stop : RunFault) → 2 ≤ first → a.next ≡ first + 1 + captures → (s : AreSomeCreated a b name (ports + 1) stop)
    → IsNumbered (numbering Created first captures ports) stop × IsFar ended stated ports (stop_named (numbering Created first captures ports) stop) s.made 0
at_creating ended stated first captures ports a b name numbered.Memory two at s = (tt, tt)
at_creating ended stated first captures ports a b name (numbered.File file) two at s =
    let here = s.at file refl in
    let is : file ≡ first + 1 + captures + s.made = here.0 ∙ ap (λ (m : ℕ). m + s.made) at in
    let le : s.made ≤ ports = omega (arith, here.1) in
    (own_created first captures ports file s.made two is (omega (arith, le)), far_created ended stated first captures ports file s.made s.made 0 two is le (omega arith) s.less)

-- not all of these files could be created
pub broken_creating : (l : Leaves) (ended : ℕ → ℕ → Type 0) (stated printed : Type 0) (before a b : Outside) (run : Run) (stop : RunFault) → AreOf l before run → a.told.next ≡ l.base → HasOnlyAsked l.inputs before a → AreSomeCreated a.told b.told (name_at l.format l.out l.ports) (l.ports + 1) stop → AsksSome (created_by l.format l.out l.ports (l.ports + 1)) a.counted b.counted stop
    → IsBroken l ended stated printed before b run (stop_named (numbering Created before.told.next l.captures l.ports) stop)
broken_creating l ended stated printed before a b run stop is next only s asks =
    let n = l.ports in
    let some = l.inputs ++ created_by l.format l.out n (n + 1) in
    let at = at_creating (ended s.made 0) stated before.told.next l.captures n a.told b.told (name_at l.format l.out n) stop is.from_two (next ∙ is.base_is) s in
    record {
      made = s.made;
      full = 0;
      within = omega (arith, s.less);
      files = left_begun before.told a.told b.told l.base (name_at l.format l.out n) (bytes_at l.format run) s.made only.untouched.contents next s.created;
      far = at.1;
      last = λ lt. absurd (omega (arith, lt, s.less));
      stdout = inl (s.created.givens 0 (omega (arith, is.from_two, is.base_is, next)) ∙ only.untouched.standard 0 (omega arith));
      stderr = s.created.givens 1 (omega (arith, is.from_two, is.base_is, next)) ∙ only.untouched.standard 1 (omega arith);
      stops = stopped_asking (numbering Created before.told.next l.captures n) (all_names l) l.inputs (created_by l.format l.out n (n + 1)) before.counted a.counted b.counted stop at.0
          (λ front g. front_both (all_names l) some (l.inputs ++ front) (front_behind l.inputs (created_by l.format l.out n (n + 1)) front g) (created_front l.inputs l.format l.out n (n + 1) (n + 2) (omega arith))) only.asked asks;
    }

-- memory ran out
pub broken_starved : (l : Leaves) (ended : ℕ → ℕ → Type 0) (stated printed : Type 0) (before a : Outside) (run : Run) (made full : ℕ) → made ≤ l.ports + 2 → (l.ports + 1 < made → (l.ports + 1 ≤ full) × stated) → HasMade l before a run made full → IsBroken l ended stated printed before a run stops.Memory
broken_starved l ended stated printed before a run made full within last h = record {
  made = made;
  full = full;
  within = within;
  files = h.files;
  far = tt;
  last = last;
  stdout = inl h.stdout;
  stderr = h.stderr;
  stops = memory_behind (numbering Created before.told.next l.captures l.ports) (all_names l) (l.inputs ++ created_by l.format l.out l.ports made) before.counted a.counted (created_front l.inputs l.format l.out l.ports made (l.ports + 2) within) h.asked_for;
}

-- ---- the state

-- one name more is asked for
asked_next : (inputs : List Asked) (format : CaptureFormat) (out : List ℕ) (n made : ℕ) → (inputs ++ created_by format out n made) ++ writing (name_at format out n made) ∷ [] ≡ inputs ++ created_by format out n (made + 1)
asked_next inputs format out n made =
    append_assoc inputs (created_by format out n made) (writing (name_at format out n made) ∷ [])
    ∙ ap (λ (t : List Asked). inputs ++ t) (sym (map-range_with_len_more (λ k. writing (name_at format out n k)) 0 made made (omega arith)))

asked_more : (l : Leaves) (made : ℕ) (start old new : Counted) → old ≡ asking (l.inputs ++ created_by l.format l.out l.ports made) start → new ≡ asking (writing (name_at l.format l.out l.ports made) ∷ []) old → new ≡ asking (l.inputs ++ created_by l.format l.out l.ports (made + 1)) start
asked_more l made start old new so_far more =
    let one = writing (name_at l.format l.out l.ports made) ∷ [] in
    more ∙ ap (asking one) so_far ∙ asking_both (l.inputs ++ created_by l.format l.out l.ports made) one start
    ∙ ap (λ (t : List Asked). asking t start) (asked_next l.inputs l.format l.out l.ports made)

-- what is known of the file that was created last
record IsLast (l : Leaves) (before mid : Outside) (run : Run) (file : ℕ) : Type 0 where
  left : Left before.told mid.told l.base (name_at l.format l.out l.ports) (bytes_at l.format run) (l.ports + 1 + 1) (l.ports + 1)
  at : file ≡ l.base + (l.ports + 1)
  apart : (k : ℕ) → k < l.ports + 1 → name_at l.format l.out l.ports k ≢ name_at l.format l.out l.ports (l.ports + 1)

is_last : (l : Leaves) (before a mid : Outside) (run : Run) (file : ℕ) → AreOf l before run → HasMade l before a run (l.ports + 1) (l.ports + 1) → IsBegun (name_at l.format l.out l.ports (l.ports + 1)) file a mid → IsLast l before mid run file
is_last l before a mid run file is h begun =
    let n = l.ports in
    let other = λ (k : ℕ) (lt : k < n + 1). apart l before run is k (n + 1) (omega (arith, lt)) (omega arith) (λ e. omega (arith, e, lt)) in
    record {
      left = left_created before.told a.told mid.told l.base (name_at l.format l.out n) (bytes_at l.format run) (n + 1) (n + 1) file h.files begun.created other;
      at = begun.created.number ∙ h.files.next;
      apart = other;
    }

-- what other files were given stays
kept_put : {name text : List ℕ} {a b : Outside} (put : IsPut name text a b) (g : ℕ) → g < a.told.next → b.told.given g ≡ a.told.given g
kept_put put g lt = put.wrote.givens g (λ e. omega (arith, e, lt, put.begun.created.number)) ∙ put.begun.created.givens g (λ e. omega (arith, e, lt, put.begun.created.number))

kept_half : {name text : List ℕ} {a b : Outside} {stop : RunFault} (half : IsHalfPut name text a b stop) (g : ℕ) → g < a.told.next → b.told.given g ≡ a.told.given g
kept_half half g lt = half.wrote.wrote.givens g (λ e. omega (arith, e, lt, half.begun.created.number)) ∙ half.begun.created.givens g (λ e. omega (arith, e, lt, half.begun.created.number))

-- the state is whole
has_put : (l : Leaves) (before a b : Outside) (run : Run) (text : List ℕ) → AreOf l before run → HasMade l before a run (l.ports + 1) (l.ports + 1) → text ≡ bytes_at l.format run (l.ports + 1) → IsPut (name_at l.format l.out l.ports (l.ports + 1)) text a b → HasMade l before b run (l.ports + 2) (l.ports + 2)
has_put l before a b run text is h same put =
    let n = l.ports in
    let last = is_last l before a put.mid run put.file is h put.begun in
    let more : n + 1 + 1 ≡ n + 2 = omega arith in
    record {
      files = subst (λ (m : ℕ). Left before.told b.told l.base (name_at l.format l.out n) (bytes_at l.format run) m m) more
          (left_written before.told put.mid.told b.told l.base (name_at l.format l.out n) (bytes_at l.format run) (n + 1) put.file last.left put.begun.created.empty last.at last.apart (subst (Writes put.mid.told b.told put.file) same put.wrote));
      stdout = kept_put put 0 (omega (arith, h.files.next, is.base_is, is.from_two)) ∙ h.stdout;
      stderr = kept_put put 1 (omega (arith, h.files.next, is.base_is, is.from_two)) ∙ h.stderr;
      asked_for = put.counted ∙ subst (λ (m : ℕ). put.mid.counted ≡ asking (l.inputs ++ created_by l.format l.out n m) before.counted) more
          (asked_more l (n + 1) before.counted a.counted put.mid.counted h.asked_for put.begun.asked_for);
    }

asks_at : (one : Asked) (number : ℕ) (old new : Counted) (stop : RunFault) → AsksNext {T = ℕ} one number old new (Err stop) → StopsAt {T = Unit {0}} number (Err stop)
asks_at one number old new numbered.Memory h = tt
asks_at one number old new (numbered.File file) h = h.0

at_state : (ended stated : Type 0) (first captures ports number made full : ℕ) (stop : RunFault) → 2 ≤ first → number ≡ first + 1 + captures + (ports + 1) → ports + 1 ≤ full → stated → StopsAt {T = Unit {0}} number (Err stop)
    → IsNumbered (numbering Created first captures ports) stop × IsFar ended stated ports (stop_named (numbering Created first captures ports) stop) made full
at_state ended stated first captures ports number made full numbered.Memory two is whole states at = (tt, tt)
at_state ended stated first captures ports number made full (numbered.File file) two is whole states at =
    (own_created first captures ports file (ports + 1) two (at ∙ is) (omega arith), far_state ended stated first captures ports file made full two (at ∙ is) whole states)

-- it is not
broken_put : (l : Leaves) (ended : ℕ → ℕ → Type 0) (stated printed : Type 0) (before a b : Outside) (run : Run) (text : List ℕ) (stop : RunFault) → AreOf l before run → HasMade l before a run (l.ports + 1) (l.ports + 1) → text ≡ bytes_at l.format run (l.ports + 1) → stated
    → PutsTo {T = Unit {0}} (name_at l.format l.out l.ports (l.ports + 1)) text a b (Err stop) → IsBroken l ended stated printed before b run (stop_named (numbering Created before.told.next l.captures l.ports) stop)
broken_put l ended stated printed before a b run text stop is h same states (inl none) =
    let n = l.ports in
    subst (λ (s : RunFault). IsBroken l ended stated printed before b run (stop_named (numbering Created before.told.next l.captures n) s)) (sym none.memory)
    (subst (λ (o : Outside). IsBroken l ended stated printed before o run stops.Memory) (sym none.same) (broken_starved l ended stated printed before a run (n + 1) (n + 1) (omega arith) (λ lt. absurd (omega (arith, lt))) h))
broken_put l ended stated printed before a b run text stop is h same states (inr (inl k)) =
    let n = l.ports in
    let more : n + 1 + 1 ≡ n + 2 = omega arith in
    let one = writing (name_at l.format l.out n (n + 1)) in
    let at = at_state (ended (n + 1) (n + 1)) stated before.told.next l.captures n a.told.next (n + 1) (n + 1) stop is.from_two (h.files.next ∙ ap (λ (m : ℕ). m + (n + 1)) is.base_is) (omega arith) states (asks_at one a.told.next a.counted b.counted stop k.asks) in
    record {
      made = n + 1;
      full = n + 1;
      within = omega arith;
      files = left_same before.told a.told b.told l.base (name_at l.format l.out n) (bytes_at l.format run) (n + 1) (n + 1) h.files k.same;
      far = at.1;
      last = λ lt. absurd (omega (arith, lt));
      stdout = inl (k.same.givens 0 ∙ h.stdout);
      stderr = k.same.givens 1 ∙ h.stderr;
      stops = stopped_next (numbering Created before.told.next l.captures n) (all_names l) (l.inputs ++ created_by l.format l.out n (n + 1)) one a.told.next before.counted a.counted b.counted stop at.0
          (created_front l.inputs l.format l.out n (n + 1) (n + 2) (omega arith))
          (subst (λ (t : List Asked). IsFrontOf (all_names l) t) (sym (asked_next l.inputs l.format l.out n (n + 1)))
          (subst (λ (m : ℕ). IsFrontOf (all_names l) (l.inputs ++ created_by l.format l.out n m)) (sym more) (front_all (all_names l)))) h.asked_for k.asks;
    }
broken_put l ended stated printed before a b run text stop is h same states (inr (inr half)) =
    let n = l.ports in
    let last = is_last l before a half.mid run half.file is h half.begun in
    let at = at_state (ended (n + 1 + 1) (n + 1)) stated before.told.next l.captures n half.file (n + 1 + 1) (n + 1) stop is.from_two (last.at ∙ ap (λ (m : ℕ). m + (n + 1)) is.base_is) (omega arith) states half.at in
    record {
      made = n + 1 + 1;
      full = n + 1;
      within = omega arith;
      files = left_half before.told half.mid.told b.told l.base (name_at l.format l.out n) (bytes_at l.format run) (n + 1) half.file last.left half.begun.created.empty last.at last.apart (subst (WritesFront half.mid.told b.told half.file) same half.wrote);
      far = at.1;
      last = λ lt. (omega arith, states);
      stdout = inl (kept_half half 0 (omega (arith, h.files.next, is.base_is, is.from_two)) ∙ h.stdout);
      stderr = kept_half half 1 (omega (arith, h.files.next, is.base_is, is.from_two)) ∙ h.stderr;
      stops = stopped_behind (numbering Created before.told.next l.captures n) (all_names l) (l.inputs ++ created_by l.format l.out n (n + 1 + 1)) before.counted half.mid.counted b.counted stop at.0
          (created_front l.inputs l.format l.out n (n + 1 + 1) (n + 2) (omega arith)) (asked_more l (n + 1) before.counted a.counted half.mid.counted h.asked_for half.begun.asked_for) half.cause;
    }

-- ---- the lines on a run

pub has_printed : (l : Leaves) (before a b : Outside) (run : Run) (made : ℕ) (lines : List ℕ) → AreOf l before run → HasMade l before a run made made → IsOut lines a b → HasPrinted l before b run made lines
has_printed l before a b run made lines is h out = record {
  files = left_printed before.told a.told b.told l.base (name_at l.format l.out l.ports) (bytes_at l.format run) made made 0 lines h.files (omega arith) (omega (arith, is.base_is, is.from_two)) out.unnamed out.wrote;
  stdout = subst (λ o. Gains lines o (b.told.given 0)) h.stdout out.wrote.gained;
  stderr = out.wrote.givens 1 (λ e. omega (arith, e)) ∙ h.stderr;
  asked_for = out.counted ∙ h.asked_for;
}

pub broken_out : (l : Leaves) (ended : ℕ → ℕ → Type 0) (stated printed : Type 0) (before a b : Outside) (run : Run) (made : ℕ) (lines : List ℕ) (stop : RunFault) → AreOf l before run → made ≤ l.ports + 2 → (l.ports + 1 < made → stated) → ended made made → (PrintedFront before.told b.told 0 lines → printed)
    → HasMade l before a run made made → IsHalfOut lines a b stop → IsBroken l ended stated printed before b run (stop_named (numbering Created before.told.next l.captures l.ports) stop)
broken_out l ended stated printed before a b run made lines stop is within states over told h half =
    let front = printed_front a.told b.told 0 lines half.wrote in
    record {
      made = made;
      full = made;
      within = within;
      files = left_printed before.told a.told b.told l.base (name_at l.format l.out l.ports) (bytes_at l.format run) made made 0 _ h.files (omega arith) (omega (arith, is.base_is, is.from_two)) half.unnamed half.wrote.wrote;
      far = far_printed (ended made made) stated before.told.next l.captures l.ports made made stop is.from_two over half.at;
      last = λ lt. (omega (arith, lt), states lt);
      stdout = inr (over, told (record { front = front.front; is_front = front.is_front; part = front.part; printed = subst (λ o. Gains front.front o (b.told.given 0)) h.stdout front.printed }));
      stderr = half.wrote.wrote.givens 1 (λ e. omega (arith, e)) ∙ h.stderr;
      stops = stopped_behind (numbering Created before.told.next l.captures l.ports) (all_names l) (l.inputs ++ created_by l.format l.out l.ports made) before.counted a.counted b.counted stop (own_printed Created before.told.next l.captures l.ports stop is.from_two half.at)
          (created_front l.inputs l.format l.out l.ports made (l.ports + 2) within) h.asked_for half.cause;
    }

-- ---- the state, and then the lines

pub finished : (l : Leaves) (before a mid b : Outside) (run : Run) (text lines : List ℕ) → AreOf l before run → HasMade l before a run (l.ports + 1) (l.ports + 1) → text ≡ bytes_at l.format run (l.ports + 1) → IsPut (name_at l.format l.out l.ports (l.ports + 1)) text a mid → IsOut lines mid b → HasPrinted l before b run (l.ports + 2) lines
finished l before a mid b run text lines is h same put out = has_printed l before mid b run (l.ports + 2) lines is (has_put l before a mid run text is h same put) out

pub kept_finished : {name text lines : List ℕ} {a mid b : Outside} → IsPut name text a mid → IsOut lines mid b → (g : ℕ) → 0 < g → g < a.told.next → b.told.given g ≡ a.told.given g
kept_finished put out g some lt = out.wrote.givens g (λ e. omega (arith, e, some)) ∙ kept_put put g lt

pub unfinished : (l : Leaves) (ended : ℕ → ℕ → Type 0) (stated printed : Type 0) (before a b : Outside) (run : Run) (text lines : List ℕ) (stop : RunFault) → AreOf l before run → HasMade l before a run (l.ports + 1) (l.ports + 1) → text ≡ bytes_at l.format run (l.ports + 1) → stated → ended (l.ports + 2) (l.ports + 2)
    → (((g : ℕ) → 0 < g → g < a.told.next → b.told.given g ≡ a.told.given g) → PrintedFront before.told b.told 0 lines → printed)
    → FinishesTo {T = Unit {0}} (name_at l.format l.out l.ports (l.ports + 1)) text lines a b (Err stop) → IsBroken l ended stated printed before b run (stop_named (numbering Created before.told.next l.captures l.ports) stop)
unfinished l ended stated printed before a b run text lines stop is h same states over told (inl failed) = broken_put l ended stated printed before a b run text stop is h same states failed
unfinished l ended stated printed before a b run text lines stop is h same states over told (inr late) =
    broken_out l ended stated printed before late.0 b run (l.ports + 2) lines stop is (omega arith) (λ lt. states) over
    (told (λ g some lt. late.2.wrote.wrote.givens g (λ e. omega (arith, e, some)) ∙ kept_put late.1 g lt)) (has_put l before a late.0 run text is h same late.1) late.2
