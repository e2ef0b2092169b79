-- What is right is taken for right, and for nothing else.
use Rattle.std.proofs.Common.{◌≡◌, ◌≢◌, ℕ, inl, inr, List, [], ◌∷◌, ◌++◌, length, map, Option, Some, Ok, refl, sym, ap, ◌∙◌, subst, append_assoc, append-nil, arith}
use Rattle.std.specs.List.{AllByRecursion}
use Rattle.std.proofs.lemmas.List.{map-append, length-append, append_cancel_left}
use Rattle.std.proofs.lemmas.Option.{same_Some}
use Rattle.nf_base.specs.declared.keys.Keys.{Keys}
use Rattle.nf_base.specs.declared.done.Done.{Done}
use Rattle.nf_base.specs.declared.state.State.{State}
use Rattle.nf_base.specs.Text.{Function}
use Rattle.nf_base.specs.Step.{opening}
use Rattle.nf_base.specs.Runs.{Handling, RunResult, run}
use Rattle.packet_feed.specs.Arrivals.{Arrival}
use Rattle.run_history.specs.Headings.{Heading, IsHeading}
use Rattle.run_history.specs.Line.{line_bytes}
use Rattle.run_history.specs.Lines.{IsLine}
use Rattle.run_history.specs.declared.line.JournalLine.{JournalLine}
use Rattle.run_history.specs.declared.line.JournalLine.TheVariants.{Header}
use Rattle.run_history.specs.declared.line.JournalLine.TheVariants as line
use Rattle.file_match.specs.Comparing.{IsOtherIfTold}
use Rattle.journal_read.specs.Journals.{lines_bytes, Stands, HasNoHeader, AreAllLines, AreMoreLines}
use Rattle.journal_read.proofs.Firsts.{same_line, line_some}
use Rattle.stream_run.specs.Rules.{rule_in}
use Rattle.stream_run.proofs.Ruled.{handled_fronts}
use Rattle.stream_run.specs.Runs.{Handled}
use Rattle.stream_run.specs.Streaming.{arrival_of, handling_in, result_in, IsUndivided}
use Rattle.stream_run.specs.declared.fault.RunFault.{RunFault}
use Rattle.replay_run.specs.Replaying.{RunKind, Beside, line_in, journal_lines, sent, IsRun, AreFirstIn, NoneGoesOn, BeginsWith, IsWrong, IsRight, IsJournal, Replays}
use Rattle.replay_run.specs.Queues.{keys_or_none}
use Rattle.replay_run.specs.Heads.{Comes}
use Rattle.replay_run.proofs.Ports.{first_front, same_packets}
use Rattle.replay_run.specs.Laws.{IsThere, RightIsAccepted, IsFirst, FirstIsFound}
use Rattle.replay_run.specs.declared.result.ReplayResult.{ReplayResult}
use Rattle.replay_run.specs.declared.result.ReplayResult.TheVariants.{Same, TooMany, Line, Output}

-- ---- lines of bytes

record Longer (xs ys : List JournalLine) (rest : List ℕ) : Type 0 where
  pub more : List JournalLine
  pub is : xs ≡ ys ++ more
  pub bytes : lines_bytes more ≡ rest

longer : (xs ys : List JournalLine) (rest : List ℕ) → AllByRecursion IsLine xs → AllByRecursion IsLine ys → lines_bytes xs ≡ lines_bytes ys ++ rest → Longer xs ys rest
longer xs [] rest h k e = record { more = xs; is = refl; bytes = e }
longer [] (y ∷ ys) rest h k e = absurd (line_some y (lines_bytes ys ++ rest) k.0 (sym (append_assoc (line_bytes y) (lines_bytes ys) rest) ∙ sym e))
longer (x ∷ xs) (y ∷ ys) rest h k e =
    let whole : line_bytes x ++ lines_bytes xs ≡ line_bytes y ++ (lines_bytes ys ++ rest) = e ∙ append_assoc (line_bytes y) (lines_bytes ys) rest in
    let same : x ≡ y = same_line x y (lines_bytes xs) (lines_bytes ys ++ rest) h.0 k.0 whole in
    let left : lines_bytes xs ≡ lines_bytes ys ++ rest = append_cancel_left (line_bytes y) (lines_bytes xs) (lines_bytes ys ++ rest) (ap (λ (l : JournalLine). line_bytes l ++ lines_bytes xs) (sym same) ∙ whole) in
    let rest_of = longer xs ys rest h.1 k.1 left in
    record { more = rest_of.more; is = ap (λ (l : JournalLine). l ∷ xs) same ∙ ap (λ (t : List JournalLine). y ∷ t) rest_of.is; bytes = rest_of.bytes }

-- ---- packets of lines

record Divided (hs ks : List Handled) (more : List JournalLine) : Type 0 where
  pub front : List Handled
  pub later : List Handled
  pub is : hs ≡ front ++ later
  pub fronts : map line_in front ≡ map line_in ks
  pub laters : map line_in later ≡ more

divided : (hs ks : List Handled) (more : List JournalLine) → map line_in hs ≡ map line_in ks ++ more → Divided hs ks more
divided hs [] more e = record { front = []; later = hs; is = refl; fronts = refl; laters = e }
divided [] (k ∷ ks) more e = absurd cc
divided (h ∷ hs) (k ∷ ks) more e =
    let first : line_in h ≡ line_in k = cc in
    let rest : map line_in hs ≡ map line_in ks ++ more = cc in
    let d = divided hs ks more rest in
    record {
      front = h ∷ d.front;
      later = d.later;
      is = ap (λ (t : List Handled). h ∷ t) d.is;
      fronts = ap (λ (l : JournalLine). l ∷ map line_in d.front) first ∙ ap (λ (t : List JournalLine). line_in k ∷ t) d.fronts;
      laters = d.laters;
    }

-- ---- one list of packets

abbrev picks_in : JournalLine → List ℕ
picks_in (line.Header heading) = []
picks_in (line.Packet id worker action picks) = picks

abbrev worker_in : JournalLine → ℕ
worker_in (line.Header heading) = 0
worker_in (line.Packet id worker action picks) = worker

abbrev handled : Arrival → ℕ → Done → Handled
handled a w d = record { arrival = a; worker = w; done = d }

abbrev handling : Arrival → List ℕ → Handling
handling a choices = record { packet = a.packet; choices = choices }

same_handlings : (xs ys : List Handled) → map arrival_of xs ≡ map arrival_of ys → map line_in xs ≡ map line_in ys → map handling_in xs ≡ map handling_in ys
same_handlings [] [] a l = refl
same_handlings [] (y ∷ ys) a l = absurd cc
same_handlings (x ∷ xs) [] a l = absurd cc
same_handlings (x ∷ xs) (y ∷ ys) a l =
    let arrival : x.arrival ≡ y.arrival = cc in
    let arrivals : map arrival_of xs ≡ map arrival_of ys = cc in
    let told : line_in x ≡ line_in y = cc in
    let ls : map line_in xs ≡ map line_in ys = cc in
    ap (λ (b : Arrival). handling b x.done.picks ∷ map handling_in xs) arrival
    ∙ ap (λ (cs : List ℕ). handling y.arrival cs ∷ map handling_in xs) (ap picks_in told)
    ∙ ap (λ (t : List Handling). handling_in y ∷ t) (same_handlings xs ys arrivals ls)

same_lists : (xs ys : List Handled) → map arrival_of xs ≡ map arrival_of ys → map line_in xs ≡ map line_in ys → map (λ (h : Handled). h.done) xs ≡ map (λ (h : Handled). h.done) ys → xs ≡ ys
same_lists [] [] a l d = refl
same_lists [] (y ∷ ys) a l d = absurd cc
same_lists (x ∷ xs) [] a l d = absurd cc
same_lists (x ∷ xs) (y ∷ ys) a l d =
    let arrival : x.arrival ≡ y.arrival = cc in
    let arrivals : map arrival_of xs ≡ map arrival_of ys = cc in
    let told : line_in x ≡ line_in y = cc in
    let ls : map line_in xs ≡ map line_in ys = cc in
    let done : x.done ≡ y.done = cc in
    let ds : map (λ (h : Handled). h.done) xs ≡ map (λ (h : Handled). h.done) ys = cc in
    ap (λ (b : Arrival). handled b x.worker x.done ∷ xs) arrival
    ∙ ap (λ (w : ℕ). handled y.arrival w x.done ∷ xs) (ap worker_in told)
    ∙ ap (λ (e : Done). handled y.arrival y.worker e ∷ xs) done
    ∙ ap (λ (t : List Handled). y ∷ t) (same_lists xs ys arrivals ls ds)

record SameRuns (xs ys : List Handled) (s t : State) : Type 0 where
  pub list : xs ≡ ys
  pub state : s ≡ t

same_runs : (f : Function) (xs ys : List Handled) (s t : State) → IsUndivided f xs s → IsUndivided f ys t → map arrival_of xs ≡ map arrival_of ys → map line_in xs ≡ map line_in ys → SameRuns xs ys s t
same_runs f xs ys s t u v a l =
    let both : result_in xs s ≡ result_in ys t = same_Some _ _ (sym u ∙ ap (run f (opening f)) (same_handlings xs ys a l) ∙ v) in
    record { list = same_lists xs ys a l (ap (λ (r : RunResult). r.answers) both); state = ap (λ (r : RunResult). r.state) both }

-- ---- the first packets of a run

pub run_front : (f : Function) (keys : Keys) (heading : Heading) (xs ys : List Handled) (s : State) → IsRun f keys heading (xs ++ ys) s → (t : State) × IsRun f keys heading xs t
run_front f keys heading xs ys s r = handled_fronts (rule_in heading.mode heading.workers keys) f xs ys s r

-- ---- what stands behind right lines

record Behind (hs ks : List Handled) (rest : List ℕ) : Type 0 where
  pub later : List Handled
  pub is : hs ≡ ks ++ later
  pub bytes : lines_bytes (map line_in later) ≡ rest
  pub lines : AllByRecursion IsLine (map line_in later)

lines_behind : (xs ys : List JournalLine) → AllByRecursion IsLine (xs ++ ys) → AllByRecursion IsLine ys
lines_behind [] ys h = h
lines_behind (x ∷ xs) ys h = lines_behind xs ys h.1

module _ (f : Function) (keys : Option Keys) (heading : Heading) (ports : ℕ) (beside : Beside) (hs : List Handled) (state : State) (there : IsThere (IsRun f (keys_or_none keys) heading) keys heading ports beside hs state) where
  abbrev Kind : RunKind
  Kind = IsRun f (keys_or_none keys) heading

  abbrev whole_bytes : List Handled → List ℕ
  whole_bytes xs = lines_bytes (journal_lines heading xs)

  behind : (ks : List Handled) (t : State) (rest : List ℕ) → IsRight Kind heading beside ks t → whole_bytes hs ≡ whole_bytes ks ++ rest → Behind hs ks rest
  behind ks t rest right e =
      let more = longer (journal_lines heading hs) (journal_lines heading ks) rest (there.header, there.lines) (there.header, right.lines) e in
      let told : map line_in hs ≡ map line_in ks ++ more.more = cc in
      let d = divided hs ks more.more told in
      let ran = run_front f (keys_or_none keys) heading d.front d.later state (subst (λ (xs : List Handled). Kind xs state) d.is there.run) in
      let others : AreFirstIn heading.mode (Some there.all) (map arrival_of ks) = subst (λ (o : Option (List Arrival)). AreFirstIn heading.mode o (map arrival_of ks)) there.captures right.first in
      let mine : AreFirstIn heading.mode (Some there.all) (map arrival_of d.front) =
      first_front heading.mode there.all (map arrival_of d.front) (map arrival_of d.later)
      (subst (AreFirstIn heading.mode (Some there.all)) (ap (map arrival_of) d.is ∙ map-append arrival_of d.front d.later) there.first) in
      let arrivals = same_packets heading.mode there.all d.front ks d.fronts mine others in
      let one = same_runs f d.front ks ran.0 t ran.1.undivided right.run.undivided arrivals d.fronts in
      record {
        later = d.later;
        is = d.is ∙ ap (λ (xs : List Handled). xs ++ d.later) one.list;
        bytes = ap lines_bytes d.laters ∙ more.bytes;
        lines = subst (AllByRecursion IsLine) (sym d.laters) (lines_behind (map line_in ks) more.more (subst (AllByRecursion IsLine) told there.lines));
      }

  -- where nothing stands behind them
  none_behind : (ks later : List Handled) → hs ≡ ks ++ later → lines_bytes (map line_in later) ≡ [] → AllByRecursion IsLine (map line_in later) → hs ≡ ks
  none_behind ks [] e none lines = e ∙ append-nil ks
  none_behind ks (h ∷ later) e none lines = absurd (line_some (line_in h) (lines_bytes (map line_in later)) lines.0 none)

  all_of : (ks : List Handled) (t : State) → IsJournal Kind heading beside ks t → hs ≡ ks
  all_of ks t j =
      let told = subst (λ (o : Option (List ℕ)). AreAllLines o (journal_lines heading ks)) there.journal_is j.whole in
      let b = behind ks t [] j.right (told ∙ sym (append-nil (whole_bytes ks))) in
      none_behind ks b.later b.is b.bytes b.lines

  not_more : (ks later : List Handled) (rest : List ℕ) → hs ≡ ks ++ later → lines_bytes (map line_in later) ≡ rest → rest ≢ [] → length ks ≡ beside.most → ⊥
  not_more ks [] rest e bytes some count = some (sym bytes)
  not_more ks (h ∷ later) rest e bytes some count = absurd (omega (arith, there.within, count, ap (λ (xs : List Handled). length xs) e, length-append ks (h ∷ later)))

  goes_on : (ks later : List Handled) (rest : List ℕ) → hs ≡ ks ++ later → lines_bytes (map line_in later) ≡ rest → rest ≢ [] → AllByRecursion IsLine (map line_in later) → NoneGoesOn Kind heading.mode (Some there.all) ks (BeginsWith rest) → ⊥
  goes_on ks [] rest e bytes some lines none = some (sym bytes)
  goes_on ks (h ∷ later) rest e bytes some lines none =
      let on : hs ≡ (ks ++ h ∷ []) ++ later = e ∙ sym (append_assoc ks (h ∷ []) later) in
      let ran = run_front f (keys_or_none keys) heading (ks ++ h ∷ []) later state (subst (λ (xs : List Handled). Kind xs state) on there.run) in
      let first : AreFirstIn heading.mode (Some there.all) (map arrival_of (ks ++ h ∷ [])) =
      first_front heading.mode there.all (map arrival_of (ks ++ h ∷ [])) (map arrival_of later)
      (subst (AreFirstIn heading.mode (Some there.all)) (ap (map arrival_of) on ∙ map-append arrival_of (ks ++ h ∷ []) later) there.first) in
      none h ran.0 (lines.0, (lines_bytes (map line_in later), bytes)) first ran.1

  pub accepted : (came : ReplayResult) → Replays {E = RunFault} Kind heading ports beside (Ok came) → came ≡ Same state
  accepted (Same s) r =
      let all = all_of r.hs s r.journal_is in
      let one = same_runs f hs r.hs state s there.run.undivided r.journal_is.right.run.undivided (ap (map arrival_of) all) (ap (map line_in) all) in
      ap Same (sym one.state)
  accepted TooMany r =
      let more = subst (λ (o : Option (List ℕ)). AreMoreLines o (journal_lines heading r.hs)) there.journal_is r.more in
      let b = behind r.hs r.state more.rest r.right more.behind in
      absurd (not_more r.hs b.later more.rest b.is b.bytes more.some r.count)
  accepted (Line n) r =
      let wrong = subst (λ (o : Option (List Arrival)). IsWrong Kind heading o r.hs (Some (whole_bytes hs))) there.captures
      (subst (λ (o : Option (List ℕ)). IsWrong Kind heading beside.packets r.hs o) there.journal_is r.wrong) in
      let b = behind r.hs r.state wrong.rest r.right wrong.behind in
      absurd (goes_on r.hs b.later wrong.rest b.is b.bytes wrong.some b.lines wrong.none)
  accepted (Output port) r =
      let all = all_of r.hs r.state r.journal_is in
      let other = subst (λ (o : Option (List ℕ)). IsOtherIfTold (sent beside.format heading ports r.hs port) o) (there.outputs_are port r.other.inside) r.other.other in
      absurd (other (ap (λ (xs : List Handled). sent beside.format heading ports xs port) all))

  -- the first line is the one that stands there
  same_first : (other : Heading) (rest : List ℕ) → IsHeading other → whole_bytes hs ≡ line_bytes (Header other) ++ rest → other ≡ heading
  same_first other rest is e =
      let same : Header other ≡ Header heading = same_line (Header other) (Header heading) rest (lines_bytes (map line_in hs)) is there.header (sym e) in
      cc

  pub all_accepted : (came : ReplayResult) → Comes {E = RunFault} f keys heading ports beside (Ok came) → came ≡ Same state
  all_accepted (Same s) h = accepted (Same s) h.replays
  all_accepted TooMany h = accepted TooMany h.replays
  all_accepted (Output port) h = accepted (Output port) h.replays
  all_accepted (Line n) (inr h) = accepted (Line n) h.replays
  all_accepted (Line n) (inl h) = absurd (h.none there.keyed)

  pub first_found : IsFirst heading beside.journal
  first_found = record {
    some = λ none. subst HasNoHeader there.journal_is none heading (lines_bytes (map line_in hs)) there.header refl;
    one = λ other v left is stands.
        let told = subst (λ (o : Option (List ℕ)). Stands o (Header other ∷ []) v (Some left)) there.journal_is stands in
        same_first other (v.held ++ left) is
        (told ∙ append_assoc (lines_bytes (Header other ∷ [])) v.held left ∙ ap (λ (l : List ℕ). l ++ (v.held ++ left)) (append-nil (line_bytes (Header other))));
  }

pub right_accepted : RightIsAccepted
right_accepted f keys heading ports beside hs state came there r = all_accepted f keys heading ports beside hs state there came r

pub first_is_found : FirstIsFound
first_is_found f keys heading ports beside hs state there = first_found f keys heading ports beside hs state there
