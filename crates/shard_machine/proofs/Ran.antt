-- What was collected is a run of all, by the law of shards.
use Rattle.std.proofs.Common.{◌≡◌, ℕ, zero, suc, ◌<◌, ◌≤◌, ◌+◌, ◌==◌, Bool, true, false, eq-eqb, ne_eqb, nat_lt, ltb-true, ltb-false, max, List, [], ◌∷◌, ◌++◌, length, Contains, Option, Some, None, if◌then◌else◌, refl, ap, ap₂, sym, ◌∙◌, subst, arith, ◌⊎◌, inl, inr, slice_get}
use Rattle.std.specs.Option.{option_and_then}
use Rattle.std.proofs.lemmas.Option.{same_Some}
use Rattle.std.proofs.lemmas.Bool.{cases_eq, cases_Bool}
use Rattle.nf_base.specs.declared.packet.Packet.{Packet}
use Rattle.nf_base.specs.declared.packet.Fields.{Fields}
use Rattle.nf_base.specs.declared.done.Done.{Done}
use Rattle.nf_base.specs.declared.share.Share.{Share}
use Rattle.nf_base.specs.declared.state.State.{State}
use Rattle.nf_base.specs.Text.{Function}
use Rattle.nf_base.specs.Chains.{chain_at, array_at, expired, lifetime_of}
use Rattle.nf_base.specs.Operations.{Stops, never}
use Rattle.nf_base.specs.Runs.{Handling, RunResult, run_by}
use Rattle.nf_base.specs.Shares.{share_stops, IsShareStop}
use Rattle.nf_base.specs.Step.{opening}
use Rattle.nf_laws.specs.Runs.{with_answers}
use Rattle.nf_laws.proofs.Listed.{here, there, has, has_none}
use Rattle.nf_laws.proofs.Parted.{runs_part, answer_each}
use Rattle.shard_laws.specs.Queues.{time_of, time_after, last_time, NeverFall, of_queue, answers_of, MeetAtOneQueue}
use Rattle.shard_laws.specs.Parts.{opened_of}
use Rattle.shard_laws.specs.Rule.{owner_of, TakeOfShare}
use Rattle.shard_laws.specs.Unions.{cell_at, merged_cell, greatest_of, IsUnion}
use Rattle.shard_laws.proofs.Sharing.{run_is, meeting_shares_recompose, meeting_stops}
use Rattle.shard_machine.specs.declared.event.Answer.{Answer}
use Rattle.shard_machine.specs.Machine.{Setup, Machine, packets_of, dones_of, lines_of, packets_at, answers_at}
use Rattle.shard_machine.specs.Moments.{Holds}
use Rattle.shard_machine.specs.Laws.{TimesNeverFall, CollectedIsARun, AllCollectedIsTheUnion, StopsAreShareStops, NothingBehindAStop}
use Rattle.shard_machine.proofs.Sent.{append_nil, append_twice, map_append, same_behind, same_front, length_append, length_map, packets_append, one_at, one_answer_at, no_answer_at, packets_of_at, own_front}

-- the lines of a queue's answers
pub lines_at : (queue : Packet → ℕ) (w : ℕ) (xs : List Answer) → of_queue queue w (lines_of xs) ≡ lines_of (answers_at queue w xs)
lines_at queue w [] = refl
lines_at queue w (a ∷ xs) = ap (λ (zs : List Handling). if queue a.packet == w then record { packet = a.packet; choices = a.done.picks } ∷ zs else zs) (lines_at queue w xs) ∙ out (queue a.packet == w)
  where
    out : (b : Bool) → (if b then record { packet = a.packet; choices = a.done.picks } ∷ lines_of (answers_at queue w xs) else lines_of (answers_at queue w xs)) ≡ lines_of (if b then a ∷ answers_at queue w xs else answers_at queue w xs)
    out true = refl
    out false = refl

-- the first answers of a run are those of the run over the first packets
pub record FrontRuns (stops : Stops) (f : Function) (xs : List Answer) : Type 0 where
  pub ran : RunResult
  pub is : run_by stops f (opening f) (lines_of xs) ≡ Some ran
  pub answers : ran.answers ≡ dones_of xs

of_parts : (stops : Stops) (f : Function) (xs ys : List Answer) (r : RunResult) (o : Option RunResult) → run_by stops f (opening f) (lines_of xs) ≡ o → option_and_then (λ (q : RunResult). with_answers q.answers (run_by stops f q.state (lines_of ys))) o ≡ Some r → r.answers ≡ dones_of (xs ++ ys) → FrontRuns stops f xs
of_parts stops f xs ys r None e g d = cc
of_parts stops f xs ys r (Some q) e g d = of_rest (run_by stops f q.state (lines_of ys)) g
  where
    of_rest : (o : Option RunResult) → with_answers q.answers o ≡ Some r → FrontRuns stops f xs
    of_rest None h = cc
    of_rest (Some rest) h =
        let is : record { state = rest.state; answers = q.answers ++ rest.answers } ≡ r = same_Some _ _ h in
        let both : q.answers ++ rest.answers ≡ dones_of xs ++ dones_of ys = ap (λ (z : RunResult). z.answers) is ∙ d ∙ map_append (λ (a : Answer). a.done) xs ys in
        let long : length q.answers ≡ length (dones_of xs) = answer_each stops f (opening f) (lines_of xs) q e ∙ length_map (λ (a : Answer). record { packet = a.packet; choices = a.done.picks }) xs ∙ sym (length_map (λ (a : Answer). a.done) xs) in
        record { ran = q; is = e; answers = (same_front q.answers (dones_of xs) rest.answers (dones_of ys) long both).0 }

front_runs : (stops : Stops) (f : Function) (xs ys : List Answer) (r : RunResult) → run_by stops f (opening f) (lines_of (xs ++ ys)) ≡ Some r → r.answers ≡ dones_of (xs ++ ys) → FrontRuns stops f xs
front_runs stops f xs ys r e d =
    of_parts stops f xs ys r (run_by stops f (opening f) (lines_of xs)) refl
    (sym (runs_part stops f (opening f) (lines_of xs) (lines_of ys)) ∙ ap (run_by stops f (opening f)) (sym (map_append (λ (a : Answer). record { packet = a.packet; choices = a.done.picks }) xs ys)) ∙ e) d

-- of each queue, the run over its packets that were collected
queue_runs : (x : Setup) (m : Machine) → Holds x m → (w : ℕ) → FrontRuns (share_stops (x.share w)) x.function (answers_at x.queue w m.collected)
queue_runs x m h w =
    let all = answers_at x.queue w m.collected ++ h.more w in
    let k = h.worker w in
    front_runs (share_stops (x.share w)) x.function (answers_at x.queue w m.collected) (h.more w) (record { state = (m.worker w).state; answers = dones_of (m.worker w).worked })
    (ap (λ zs. run_by (share_stops (x.share w)) x.function (opening x.function) (lines_of zs)) (sym (h.answers w)) ∙ k.ran) (ap dones_of (h.answers w))

-- choices are of their queue's share, as they are queue by queue
all_of_share : (share : ℕ → Share) (queue : Packet → ℕ) (xs : List Answer) → ((w : ℕ) → TakeOfShare share queue (lines_of (answers_at queue w xs))) → TakeOfShare share queue (lines_of xs)
all_of_share share queue [] each = tt
all_of_share share queue (a ∷ xs) each =
    let u = queue a.packet in
    let mine = subst (λ (zs : List Answer). TakeOfShare share queue (lines_of zs)) (one_answer_at queue u a xs refl) (each u) in (
      mine.0,
      all_of_share share queue xs (λ w. elim (cases_eq u w) [
        | inl same ↦ (subst (λ (zs : List Answer). TakeOfShare share queue (lines_of zs)) (one_answer_at queue w a xs same) (each w)).1
        | inr other ↦ subst (λ (zs : List Answer). TakeOfShare share queue (lines_of zs)) (no_answer_at queue w a xs other) (each w)
      ]),
    )

own_all : (x : Setup) (m : Machine) → Holds x m → TakeOfShare x.share x.queue (lines_of m.collected)
own_all x m h = all_of_share x.share x.queue m.collected (λ w.
    own_front x.share x.queue (lines_of (answers_at x.queue w m.collected)) (lines_of (h.more w))
    (subst (λ (hs : List Handling). TakeOfShare x.share x.queue hs) (ap lines_of (h.answers w) ∙ map_append (λ (a : Answer). record { packet = a.packet; choices = a.done.picks }) (answers_at x.queue w m.collected) (h.more w)) (h.worker w).own))

-- times and packets of what was collected
pub times_front : (time : ℕ) (xs : List Answer) (left : List Packet) → TimesNeverFall time (packets_of xs ++ left) → NeverFall time (lines_of xs)
times_front time [] left t = tt
times_front time (a ∷ xs) left t = (t.0, times_front (time_after time a.packet) xs left t.1)

pub next_time : (time : ℕ) (xs : List Answer) (p : Packet) (left : List Packet) → TimesNeverFall time (packets_of xs ++ p ∷ left) → last_time time (lines_of xs) ≤ time_after (last_time time (lines_of xs)) p
next_time time [] p left t = t.0
next_time time (a ∷ xs) p left t = next_time (time_after time a.packet) xs p left t.1

pub lines_sent : (xs : List Answer) (left : List Packet) (h : Handling) → Contains (lines_of xs) h → Contains (packets_of xs ++ left) h.packet
lines_sent [] left h i = absurd (has_none h i)
lines_sent (a ∷ xs) left h i = elim (has (record { packet = a.packet; choices = a.done.picks }) (lines_of xs) h i) [
  | inl e ↦ subst (λ (z : Handling). Contains (a.packet ∷ (packets_of xs ++ left)) z.packet) e (here a.packet (packets_of xs ++ left))
  | inr j ↦ there a.packet (packets_of xs ++ left) h.packet (lines_sent xs left h j)
]

-- answers are those of a run, as they are queue by queue
pub all_answers : (queue : Packet → ℕ) (xs : List Answer) (ds : List Done) → length ds ≡ length xs → ((w : ℕ) → dones_of (answers_at queue w xs) ≡ answers_of queue w (lines_of xs) ds) → ds ≡ dones_of xs
all_answers queue [] [] long each = refl
all_answers queue [] (d ∷ ds) long each = cc
all_answers queue (a ∷ xs) [] long each = cc
all_answers queue (a ∷ xs) (d ∷ ds) long each =
    let u = queue a.packet in
    let mine : (w : ℕ) → u ≡ w → a.done ∷ dones_of (answers_at queue w xs) ≡ d ∷ answers_of queue w (lines_of xs) ds =
    λ w same. sym (ap dones_of (one_answer_at queue w a xs same)) ∙ each w ∙ ap (λ (b : Bool). if b then d ∷ answers_of queue w (lines_of xs) ds else answers_of queue w (lines_of xs) ds) (eq-eqb _ _ same) in
    let head : a.done ≡ d = (same_cons a.done d _ _ (mine u refl)).0 in
    ap₂ (λ z zs. z ∷ zs) (sym head) (all_answers queue xs ds (omega (arith, long)) (λ w. elim (cases_eq u w) [
      | inl same ↦ (same_cons a.done d _ _ (mine w same)).1
      | inr other ↦ sym (ap dones_of (no_answer_at queue w a xs other)) ∙ each w ∙ ap (λ (b : Bool). if b then d ∷ answers_of queue w (lines_of xs) ds else answers_of queue w (lines_of xs) ds) (ne_eqb _ _ other)
    ]))
  where
    same_cons : (p q : Done) (ps qs : List Done) → p ∷ ps ≡ q ∷ qs → (p ≡ q) × (ps ≡ qs)
    same_cons p q ps qs e = (cc, cc)

-- the queues' runs by their shares
abbrev runs_of : (x : Setup) (m : Machine) → Holds x m → ℕ → RunResult
runs_of x m h w = (queue_runs x m h w).ran

runs_are : (x : Setup) (m : Machine) (h : Holds x m) (w : ℕ) → run_by (share_stops (x.share w)) x.function (opening x.function) (of_queue x.queue w (lines_of m.collected)) ≡ Some (runs_of x m h w)
runs_are x m h w = ap (run_by (share_stops (x.share w)) x.function (opening x.function)) (lines_at x.queue w m.collected) ∙ (queue_runs x m h w).is

pub collected_is_a_run : CollectedIsARun
collected_is_a_run x m is h times meet =
    let runs = runs_of x m h in
    let lines = lines_of m.collected in
    let rising : NeverFall 0 lines = times_front 0 m.collected h.left (subst (λ (ps : List Packet). TimesNeverFall 0 ps) h.first times) in
    let one : MeetAtOneQueue x.queue x.function lines = meet lines (λ k c. subst (λ (ps : List Packet). Contains ps k.packet) (sym h.first) (lines_sent m.collected h.left k c)) in
    let all = meeting_shares_recompose x.share x.queue x.function x.workers lines runs is.some is.shares is.below one rising (own_all x m h) (runs_are x m h) in
    record {
      ran = all.recomposes.ran;
      is = all.recomposes.is;
      answers = all_answers x.queue m.collected all.recomposes.ran.answers (answer_each never x.function (opening x.function) lines all.recomposes.ran all.recomposes.is ∙ length_map (λ (a : Answer). record { packet = a.packet; choices = a.done.picks }) m.collected)
          (λ w. sym (queue_runs x m h w).answers ∙ all.recomposes.answers w);
      rule = all.rule;
      runs = runs;
      of_queues = λ w. run_is (share_stops (x.share w)) x.function (opening x.function) (lines_of (answers_at x.queue w m.collected)) (runs w) (queue_runs x m h w).is;
      union = all.recomposes.union;
    }

-- where a worker's answers were all collected, its state is that of its run
state_is : (x : Setup) (m : Machine) (h : Holds x m) (w : ℕ) → (m.worker w).worked ≡ answers_at x.queue w m.collected → (runs_of x m h w).state ≡ (m.worker w).state
state_is x m h w e =
    ap (λ (r : RunResult). r.state) (same_Some _ _ (sym (queue_runs x m h w).is ∙ ap (λ zs. run_by (share_stops (x.share w)) x.function (opening x.function) (lines_of zs)) (sym e) ∙ (h.worker w).ran))

pub no_more : {A : Type 0} (xs ys : List A) (n : ℕ) → length (xs ++ ys) ≤ length xs → ys ≡ []
no_more xs [] n le = refl
no_more xs (y ∷ ys) n le = let e : length (xs ++ y ∷ ys) ≡ length xs + suc (length ys) = length_append xs (y ∷ ys) in absurd (omega (arith, le, e))

-- where all were collected, so were each worker's
all_worked : (x : Setup) (m : Machine) (h : Holds x m) → packets_of m.collected ≡ m.dispatched → (w : ℕ) → (m.worker w).worked ≡ answers_at x.queue w m.collected
all_worked x m h all w =
    let as_sent : packets_of (m.worker w).worked ++ (m.worker w).waiting ≡ packets_of (answers_at x.queue w m.collected) = (h.worker w).order ∙ ap (packets_at x.queue w) (sym all) ∙ packets_of_at x.queue w m.collected in
    let long : length (packets_of (m.worker w).worked) + length (m.worker w).waiting ≡ length (answers_at x.queue w m.collected) = sym (length_append (packets_of (m.worker w).worked) (m.worker w).waiting) ∙ ap length as_sent ∙ length_map (λ (a : Answer). a.packet) (answers_at x.queue w m.collected) in
    let worked : length (packets_of (m.worker w).worked) ≡ length (answers_at x.queue w m.collected ++ h.more w) = length_map (λ (a : Answer). a.packet) (m.worker w).worked ∙ ap length (h.answers w) in
    h.answers w ∙ ap (λ zs. answers_at x.queue w m.collected ++ zs) (no_more (answers_at x.queue w m.collected) (h.more w) 0 (omega (arith, long, worked))) ∙ append_nil (answers_at x.queue w m.collected)

merged_same : (a i o : ℕ) (parts others : ℕ → State) (n : ℕ) → ((w : ℕ) → parts w ≡ others w) → merged_cell a i o parts n ≡ merged_cell a i o others n
merged_same a i o parts others zero e = refl
merged_same a i o parts others (suc n) e =
    ap (λ (s : State). if cell_at s a i == o then merged_cell a i o parts n else cell_at s a i) (e n) ∙ ap (λ (v : ℕ). if cell_at (others n) a i == o then v else cell_at (others n) a i) (merged_same a i o parts others n e)

greatest_same : (k : ℕ) (parts others : ℕ → State) (n : ℕ) → ((w : ℕ) → parts w ≡ others w) → greatest_of k parts n ≡ greatest_of k others n
greatest_same k parts others zero e = refl
greatest_same k parts others (suc n) e = ap₂ (λ (s : State) (g : ℕ). max (chain_at s.chains k).greatest g) (e n) (greatest_same k parts others n e)

union_same : (owner : ℕ → ℕ → ℕ) (f : Function) (time n : ℕ) (parts others : ℕ → State) (s : State) → ((w : ℕ) → parts w ≡ others w) → IsUnion owner f time n parts s → IsUnion owner f time n others s
union_same owner f time n parts others s e u = record {
  chains = λ w. u.chains w ∙ ap (λ (z : State). length z.chains) (e w);
  arrays = λ w. u.arrays w ∙ ap (λ (z : State). length z.arrays) (e w);
  slots = λ k i. u.slots k i ∙ ap (λ (z : State). slice_get (chain_at (expired time (lifetime_of f.chains) z.chains) k).slots i) (e (owner k i));
  sizes = λ w a. u.sizes w a ∙ ap (λ (z : State). length (array_at z.arrays a)) (e w);
  cells = λ a i v at. u.cells a i v at ∙ merged_same a i (opened_of f a i) parts others n e;
  alone = λ a i v at p q lp lq dp dq. u.alone a i v at p q lp lq (λ x. dp (ap (λ (z : State). cell_at z a i) (sym (e p)) ∙ x)) (λ x. dq (ap (λ (z : State). cell_at z a i) (sym (e q)) ∙ x));
  greatest = λ k. u.greatest k ∙ greatest_same k parts others n e;
}

pub all_collected : AllCollectedIsTheUnion
all_collected x m r is h times meet all e =
    let c = collected_is_a_run x m is h times meet in
    let same : c.ran ≡ r = same_Some _ _ (sym c.is ∙ e) in
    union_same (owner_of x.workers) x.function (last_time 0 (lines_of m.collected)) x.workers (λ w. (c.runs w).state) (λ w. (m.worker w).state) r.state
    (λ w. ap (λ (z : RunResult). z.state) (same_Some _ _ (sym (c.of_queues w) ∙ run_is (share_stops (x.share w)) x.function (opening x.function) (lines_of (answers_at x.queue w m.collected)) (runs_of x m h w) (queue_runs x m h w).is)) ∙ state_is x m h w (all_worked x m h all w))
    (subst (λ (z : RunResult). IsUnion (owner_of x.workers) x.function (last_time 0 (lines_of m.collected)) x.workers (λ w. (c.runs w).state) z.state) same c.union)

-- the packet that a worker stopped at
pub head_is : (p q : Packet) (ps qs : List Packet) → p ∷ ps ≡ q ∷ qs → p ≡ q
head_is p q ps qs e = cc

pub stop_packet : (x : Setup) (m : Machine) (h : Holds x m) (packet : Packet) (later : List Packet) → m.dispatched ≡ packets_of m.collected ++ packet ∷ later → (m.worker (x.queue packet)).worked ≡ answers_at x.queue (x.queue packet) m.collected →
    (m.worker (x.queue packet)).waiting ≡ packet ∷ packets_at x.queue (x.queue packet) later
stop_packet x m h packet later next at =
    let u = x.queue packet in
    let sent : packets_at x.queue u m.dispatched ≡ packets_of (answers_at x.queue u m.collected) ++ packet ∷ packets_at x.queue u later =
    ap (packets_at x.queue u) next ∙ packets_append x.queue u (packets_of m.collected) (packet ∷ later) ∙ ap₂ (λ ps qs. ps ++ qs) (packets_of_at x.queue u m.collected) (one_at x.queue u packet later refl) in
    same_behind (packets_of (answers_at x.queue u m.collected)) _ _ (sym (ap (λ zs. packets_of zs ++ (m.worker u).waiting) at) ∙ (h.worker u).order ∙ sent)

pub contains_last : (xs : List Handling) (y h : Handling) → Contains (xs ++ y ∷ []) h → Contains xs h ⊎ (y ≡ h)
contains_last [] y h i = elim (has y [] h i) [ inl e ↦ inr e | inr j ↦ absurd (has_none h j) ]
contains_last (x ∷ xs) y h i = elim (has x (xs ++ y ∷ []) h i) [
  | inl e ↦ inl (subst (λ (z : Handling). Contains (x ∷ xs) z) e (here x xs))
  | inr j ↦ elim (contains_last xs y h j) [ inl k ↦ inl (there x xs h k) | inr e ↦ inr e ]
]

pub packet_sent : (xs : List Answer) (p : Packet) (left : List Packet) → Contains (packets_of xs ++ p ∷ left) p
packet_sent [] p left = here p left
packet_sent (a ∷ xs) p left = there a.packet (packets_of xs ++ p ∷ left) p (packet_sent xs p left)

pub handled_time : (before : ℕ) (packet : Packet) (fields : Fields) (o : Option Fields) → o ≡ Some fields → before ≤ time_of before packet.time o → before ≤ packet.time
handled_time before packet fields None e le = cc
handled_time before packet fields (Some g) e le = le

pub stops_are : StopsAreShareStops
stops_are x m packet chain r many is h times meet stop e =
    let u = x.queue packet in
    let s = (h.worker u).stop chain stop.stopped in
    let same : s.packet ≡ packet = head_is s.packet packet s.later (packets_at x.queue u stop.later) (sym s.waiting ∙ stop_packet x m h packet stop.later stop.next stop.at) in
    let share_stop : IsShareStop (x.share u) x.function (m.worker u).state packet s.fields s.choices chain = subst (λ (p : Packet). IsShareStop (x.share u) x.function (m.worker u).state p s.fields s.choices chain) same s.stop in
    let state : (runs_of x m h u).state ≡ (m.worker u).state = state_is x m h u stop.at in
    let last : Handling = record { packet = packet; choices = s.choices } in
    let lines = lines_of m.collected in
    let rising : NeverFall 0 lines = times_front 0 m.collected h.left (subst (λ (ps : List Packet). TimesNeverFall 0 ps) h.first times) in
    let one : MeetAtOneQueue x.queue x.function (lines ++ last ∷ []) = meet (lines ++ last ∷ []) (λ k c. elim (contains_last lines last k c) [
      | inl i ↦ subst (λ (ps : List Packet). Contains ps k.packet) (sym h.first) (lines_sent m.collected h.left k i)
      | inr q ↦ subst (λ (ps : List Packet). Contains ps k.packet) (sym stop.next) (subst (λ (z : Handling). Contains (packets_of m.collected ++ packet ∷ stop.later) z.packet) q (packet_sent m.collected packet stop.later))
    ]) in
    let le : last_time 0 lines ≤ packet.time = handled_time (last_time 0 lines) packet s.fields packet.fields share_stop.handled (next_time 0 m.collected packet stop.later (subst (λ (ps : List Packet). TimesNeverFall 0 ps) stop.next times)) in
    let both = meeting_stops x.share x.queue x.function x.workers lines (runs_of x m h) r packet s.fields s.choices chain many is.shares is.below one rising le (own_all x m h) (runs_are x m h) e in
    (s.fields, s.choices, both.0 (subst (λ (t : State). IsShareStop (x.share u) x.function t packet s.fields s.choices chain) (sym state) share_stop))

-- a front of a list, by its length
pub front_of : {A : Type 0} (xs ys zs ws : List A) → xs ++ ys ≡ zs ++ ws → length zs ≤ length xs → (more : List A) × (xs ≡ zs ++ more)
front_of xs ys [] ws e le = (xs, refl)
front_of [] ys (z ∷ zs) ws e le = absurd (omega (arith, le))
front_of (x ∷ xs) ys (z ∷ zs) ws e le =
    let tail : xs ++ ys ≡ zs ++ ws = cc in
    let head : x ≡ z = cc in
    let r = front_of xs ys zs ws tail (omega (arith, le)) in
    (r.0, ap₂ (λ a rest. a ∷ rest) head r.1)

pub nothing_behind : NothingBehindAStop
nothing_behind x m before later packet chain is h next stopped at = elim (cases_Bool (nat_lt (length before) (length m.collected))) [
  | inr b ↦ ltb-false (length before) (length m.collected) b
  | inl b ↦
      let u = x.queue packet in
      let lt : length before < length m.collected = ltb-true _ _ b in
      let long : length (packets_of m.collected) ≡ length m.collected = length_map (λ (a : Answer). a.packet) m.collected in
      let whole : packets_of m.collected ++ h.left ≡ (before ++ packet ∷ []) ++ later = sym h.first ∙ next ∙ sym (append_twice before (packet ∷ []) later) in
      let size : length (before ++ packet ∷ []) ≡ length before + 1 = length_append before (packet ∷ []) in
      let front = front_of (packets_of m.collected) h.left (before ++ packet ∷ []) later whole (omega (arith, lt, long, size)) in
      let at_queue : packets_of (answers_at x.queue u m.collected) ≡ (packets_at x.queue u before ++ packet ∷ []) ++ packets_at x.queue u front.0 =
      sym (packets_of_at x.queue u m.collected) ∙ ap (packets_at x.queue u) front.1 ∙ packets_append x.queue u (before ++ packet ∷ []) front.0 ∙ ap (λ zs. zs ++ packets_at x.queue u front.0) (packets_append x.queue u before (packet ∷ []) ∙ ap (λ zs. packets_at x.queue u before ++ zs) (one_at x.queue u packet [] refl)) in
      let collected_long : length (packets_of (answers_at x.queue u m.collected)) ≡ length (packets_at x.queue u before) + 1 + length (packets_at x.queue u front.0) =
      ap length at_queue ∙ length_append (packets_at x.queue u before ++ packet ∷ []) (packets_at x.queue u front.0) ∙ ap (λ n. n + length (packets_at x.queue u front.0)) (length_append (packets_at x.queue u before) (packet ∷ [])) in
      let worked_long : length (packets_of (m.worker u).worked) ≡ length (packets_of (answers_at x.queue u m.collected)) + length (h.more u) =
      length_map (λ (a : Answer). a.packet) (m.worker u).worked ∙ ap length (h.answers u) ∙ length_append (answers_at x.queue u m.collected) (h.more u) ∙ ap (λ n. n + length (h.more u)) (sym (length_map (λ (a : Answer). a.packet) (answers_at x.queue u m.collected))) in
      let same : length (packets_of (m.worker u).worked) ≡ length (packets_at x.queue u before) = ap length at in
      absurd (omega (arith, collected_long, worked_long, same))
]
