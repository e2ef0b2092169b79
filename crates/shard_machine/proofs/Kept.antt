-- What holds at each moment is kept by each event.
use Rattle.std.proofs.Common.{◌≡◌, ℕ, ◌==◌, Bool, true, false, eq-eqb, ne_eqb, List, [], ◌∷◌, ◌++◌, Option, Some, if◌then◌else◌, refl, ap, ap₂, sym, ◌∙◌, subst, inl, inr}
use Rattle.std.specs.Option.{option_and_then}
use Rattle.std.proofs.lemmas.Bool.{cases_eq}
use Rattle.nf_base.specs.declared.packet.Packet.{Packet}
use Rattle.nf_base.specs.declared.done.Done.{Done}
use Rattle.nf_base.specs.declared.share.Share.{Share}
use Rattle.nf_base.specs.declared.state.State.{State}
use Rattle.nf_base.specs.Text.{Function}
use Rattle.nf_base.specs.Operations.{Stops}
use Rattle.nf_base.specs.Runs.{Handling, RunResult, with_answer, run_by}
use Rattle.nf_base.specs.Shares.{share_stops, AreOwn, IsShareStop}
use Rattle.nf_base.specs.Step.{StepResult, step_by, opening}
use Rattle.nf_laws.specs.Runs.{with_answers}
use Rattle.nf_laws.proofs.Parted.{runs_part}
use Rattle.shard_laws.specs.Rule.{TakeOfShare}
use Rattle.shard_machine.specs.declared.event.Worked.{Worked}
use Rattle.shard_machine.specs.declared.event.Answer.{Answer}
use Rattle.shard_machine.specs.Machine.{Setup, Worker, Machine, packets_of, dones_of, lines_of, packets_at, answers_at}
use Rattle.shard_machine.specs.Events.{with_worker, given, dispatched, Works, works, idles, stops, stays, IsNext, collected, Plays, ends, dispatches, collects, waits}
use Rattle.shard_machine.specs.Events as event
use Rattle.shard_machine.specs.Moments.{WorkerHolds, Holds}
use Rattle.shard_machine.specs.Laws.{EventsKeepWhatHolds, NewShardsHold}
use Rattle.shard_machine.proofs.Sent.{append_nil, append_twice, map_append, packets_append, answers_append, one_at, none_at, one_answer_at, no_answer_at, its_queue, own_append}

pub new_holds : NewShardsHold
new_holds x = record {
  worker = λ w. record { order = refl; ran = refl; own = tt; stop = λ chain e. cc };
  left = [];
  first = refl;
  more = λ w. [];
  answers = λ w. refl;
}

-- a run with one packet more
pub run_more : (halts : Stops) (f : Function) (s t u : State) (hs : List Handling) (dones : List Done) (h : Handling) (done : Done) → run_by halts f s hs ≡ Some (record { state = t; answers = dones }) → step_by halts f t h.packet h.choices ≡ Some (record { state = u; done = done }) →
    run_by halts f s (hs ++ h ∷ []) ≡ Some (record { state = u; answers = dones ++ done ∷ [] })
run_more halts f s t u hs dones h done e g =
    runs_part halts f s hs (h ∷ [])
    ∙ ap (option_and_then (λ (r : RunResult). with_answers r.answers (run_by halts f r.state (h ∷ [])))) e
    ∙ ap (λ (o : Option StepResult). with_answers dones (option_and_then (λ (next : StepResult). with_answer next.done (run_by halts f next.state [])) o)) g

-- a worker that is given a packet of its queue
given_holds : (x : Setup) (w : ℕ) (sent : List Packet) (worker : Worker) (p : Packet) → WorkerHolds x w sent worker → WorkerHolds x w (sent ++ p ∷ []) (given p worker)
given_holds x w sent worker p h = record {
  order = sym (append_twice (packets_of worker.worked) worker.waiting (p ∷ [])) ∙ ap (λ zs. zs ++ p ∷ []) h.order;
  ran = h.ran;
  own = h.own;
  stop = λ chain e. let s = h.stop chain e in record { packet = s.packet; later = s.later ++ p ∷ []; waiting = ap (λ zs. zs ++ p ∷ []) s.waiting; fields = s.fields; choices = s.choices; stop = s.stop };
}

-- a worker that works
works_holds : (x : Setup) (w : ℕ) (dispatched : List Packet) (came : Worked) (before after : Worker) → WorkerHolds x w (packets_at x.queue w dispatched) before → Works x.function (x.share w) came before after → WorkerHolds x w (packets_at x.queue w dispatched) after
works_holds x w sent came before after h (works worker packet waiting done state going next own stepped) =
    let line : Handling = record { packet = packet; choices = done.picks } in
    let here : x.queue packet ≡ w = its_queue x.queue w sent (packets_of before.worked) packet waiting (sym h.order ∙ ap (λ zs. packets_of before.worked ++ zs) next) in
    record {
      order = ap (λ zs. zs ++ waiting) (map_append (λ (a : Answer). a.packet) before.worked (record { packet = packet; done = done } ∷ [])) ∙ append_twice (packets_of before.worked) (packet ∷ []) waiting
          ∙ ap (λ zs. packets_of before.worked ++ zs) (sym next) ∙ h.order;
      ran = ap (run_by (share_stops (x.share w)) x.function (opening x.function)) (map_append (λ (a : Answer). record { packet = a.packet; choices = a.done.picks }) before.worked (record { packet = packet; done = done } ∷ []))
          ∙ run_more (share_stops (x.share w)) x.function (opening x.function) before.state state (lines_of before.worked) (dones_of before.worked) line done h.ran stepped
          ∙ ap (λ (ds : List Done). Some (record { state = state; answers = ds })) (sym (map_append (λ (a : Answer). a.done) before.worked (record { packet = packet; done = done } ∷ [])));
      own = subst (λ (hs : List Handling). TakeOfShare x.share x.queue hs) (sym (map_append (λ (a : Answer). record { packet = a.packet; choices = a.done.picks }) before.worked (record { packet = packet; done = done } ∷ [])))
          (own_append x.share x.queue (lines_of before.worked) (line ∷ []) h.own (subst (λ (v : ℕ). AreOwn (x.share v) done.picks) (sym here) own, tt));
      stop = λ chain e. cc;
    }
works_holds x w sent came before after h (idles worker going none) = h
works_holds x w sent came before after h (stops worker packet waiting fields choices chain going next stop) = record {
  order = h.order;
  ran = h.ran;
  own = h.own;
  stop = λ k e. let same : chain ≡ k = cc in
      record { packet = packet; later = waiting; waiting = next; fields = fields; choices = choices; stop = subst (λ (j : ℕ). IsShareStop (x.share w) x.function before.state packet fields choices j) same stop };
}
works_holds x w sent came before after h (stays worker chain was) = h

worked_more : (f : Function) (share : Share) (came : Worked) (before after : Worker) → Works f share came before after → (more : List Answer) × (after.worked ≡ before.worked ++ more)
worked_more f share came before after (works worker packet waiting done state going next own stepped) = (record { packet = packet; done = done } ∷ [], refl)
worked_more f share came before after (idles worker going none) = ([], sym (append_nil before.worked))
worked_more f share came before after (stops worker packet waiting fields choices chain going next stop) = ([], sym (append_nil before.worked))
worked_more f share came before after (stays worker chain was) = ([], sym (append_nil before.worked))

-- each event
pub dispatch_holds : (x : Setup) (p : Packet) (m : Machine) → Holds x m → Holds x (dispatched x p m)
dispatch_holds x p m h = record {
  worker = λ w. elim (cases_eq (x.queue p) w) [
    | inl same ↦
        let b : (x.queue p == w) ≡ true = eq-eqb _ _ same in
        let sent : packets_at x.queue w (m.dispatched ++ p ∷ []) ≡ packets_at x.queue w m.dispatched ++ p ∷ [] = packets_append x.queue w m.dispatched (p ∷ []) ∙ ap (λ zs. packets_at x.queue w m.dispatched ++ zs) (one_at x.queue w p [] same) in
        subst (λ (ps : List Packet). WorkerHolds x w ps (if x.queue p == w then given p (m.worker (x.queue p)) else m.worker w)) (sym sent)
        (subst (λ (c : Bool). WorkerHolds x w (packets_at x.queue w m.dispatched ++ p ∷ []) (if c then given p (m.worker (x.queue p)) else m.worker w)) (sym b)
        (subst (λ (v : ℕ). WorkerHolds x w (packets_at x.queue w m.dispatched ++ p ∷ []) (given p (m.worker v))) (sym same) (given_holds x w (packets_at x.queue w m.dispatched) (m.worker w) p (h.worker w))))
    | inr other ↦
        let b : (x.queue p == w) ≡ false = ne_eqb _ _ other in
        let sent : packets_at x.queue w (m.dispatched ++ p ∷ []) ≡ packets_at x.queue w m.dispatched = packets_append x.queue w m.dispatched (p ∷ []) ∙ ap (λ zs. packets_at x.queue w m.dispatched ++ zs) (none_at x.queue w p [] other) ∙ append_nil (packets_at x.queue w m.dispatched) in
        subst (λ (ps : List Packet). WorkerHolds x w ps (if x.queue p == w then given p (m.worker (x.queue p)) else m.worker w)) (sym sent)
        (subst (λ (c : Bool). WorkerHolds x w (packets_at x.queue w m.dispatched) (if c then given p (m.worker (x.queue p)) else m.worker w)) (sym b) (h.worker w))
  ];
  left = h.left ++ p ∷ [];
  first = ap (λ zs. zs ++ p ∷ []) h.first ∙ append_twice (packets_of m.collected) h.left (p ∷ []);
  more = h.more;
  answers = λ w. elim (cases_eq (x.queue p) w) [
    | inl same ↦
        let b : (x.queue p == w) ≡ true = eq-eqb _ _ same in
        ap (λ (c : Bool). (if c then given p (m.worker (x.queue p)) else m.worker w).worked) b ∙ ap (λ (v : ℕ). (m.worker v).worked) same ∙ h.answers w
    | inr other ↦
        let b : (x.queue p == w) ≡ false = ne_eqb _ _ other in
        ap (λ (c : Bool). (if c then given p (m.worker (x.queue p)) else m.worker w).worked) b ∙ h.answers w
  ];
}

pub if_true : {A : Type 0} (b : Bool) (x y : A) → b ≡ true → (if b then x else y) ≡ x
if_true true x y e = refl
if_true false x y e = cc

pub if_false : {A : Type 0} (b : Bool) (x y : A) → b ≡ false → (if b then x else y) ≡ y
if_false true x y e = cc
if_false false x y e = refl

pub work_holds : (x : Setup) (w : ℕ) (came : Worked) (worker : Worker) (m : Machine) → Holds x m → Works x.function (x.share w) came (m.worker w) worker → Holds x (with_worker w worker m)
work_holds x w came worker m h go =
    let grown = worked_more x.function (x.share w) came (m.worker w) worker go in
    record {
      worker = λ v. elim (cases_eq w v) [
        | inl same ↦ subst (λ (z : Worker). WorkerHolds x v (packets_at x.queue v m.dispatched) z) (sym (if_true (w == v) worker (m.worker v) (eq-eqb _ _ same)))
            (subst (λ (j : ℕ). WorkerHolds x j (packets_at x.queue j m.dispatched) worker) same (works_holds x w m.dispatched came (m.worker w) worker (h.worker w) go))
        | inr other ↦ subst (λ (z : Worker). WorkerHolds x v (packets_at x.queue v m.dispatched) z) (sym (if_false (w == v) worker (m.worker v) (ne_eqb _ _ other))) (h.worker v)
      ];
      left = h.left;
      first = h.first;
      more = λ v. if w == v then h.more v ++ grown.0 else h.more v;
      answers = λ v. elim (cases_eq w v) [
        | inl same ↦
            let b : (w == v) ≡ true = eq-eqb _ _ same in
            ap (λ (z : Worker). z.worked) (if_true (w == v) worker (m.worker v) b) ∙ grown.1 ∙ ap (λ (j : ℕ). (m.worker j).worked ++ grown.0) same ∙ ap (λ zs. zs ++ grown.0) (h.answers v)
            ∙ append_twice (answers_at x.queue v m.collected) (h.more v) grown.0 ∙ ap (λ zs. answers_at x.queue v m.collected ++ zs) (sym (if_true (w == v) (h.more v ++ grown.0) (h.more v) b))
        | inr other ↦
            let b : (w == v) ≡ false = ne_eqb _ _ other in
            ap (λ (z : Worker). z.worked) (if_false (w == v) worker (m.worker v) b) ∙ h.answers v ∙ ap (λ zs. answers_at x.queue v m.collected ++ zs) (sym (if_false (w == v) (h.more v ++ grown.0) (h.more v) b))
      ];
    }

pub collect_holds : (x : Setup) (a : Answer) (m : Machine) → Holds x m → IsNext x m a → Holds x (collected a m)
collect_holds x a m h next =
    let u = x.queue a.packet in
    record {
      worker = h.worker;
      left = next.later;
      first = next.dispatched ∙ sym (append_twice (packets_of m.collected) (a.packet ∷ []) next.later) ∙ ap (λ zs. zs ++ next.later) (sym (map_append (λ (b : Answer). b.packet) m.collected (a ∷ [])));
      more = λ v. if u == v then next.more else h.more v;
      answers = λ v. elim (cases_eq u v) [
        | inl same ↦
            let there : answers_at x.queue v (m.collected ++ a ∷ []) ≡ answers_at x.queue v m.collected ++ a ∷ [] = answers_append x.queue v m.collected (a ∷ []) ∙ ap (λ zs. answers_at x.queue v m.collected ++ zs) (one_answer_at x.queue v a [] same) in
            ap (λ (j : ℕ). (m.worker j).worked) (sym same) ∙ next.worked ∙ ap (λ (j : ℕ). answers_at x.queue j m.collected ++ a ∷ next.more) same
            ∙ sym (append_twice (answers_at x.queue v m.collected) (a ∷ []) next.more) ∙ ap₂ (λ xs ys. xs ++ ys) (sym there) (sym (if_true (u == v) next.more (h.more v) (eq-eqb _ _ same)))
        | inr other ↦
            let there : answers_at x.queue v (m.collected ++ a ∷ []) ≡ answers_at x.queue v m.collected = answers_append x.queue v m.collected (a ∷ []) ∙ ap (λ zs. answers_at x.queue v m.collected ++ zs) (no_answer_at x.queue v a [] other) ∙ append_nil (answers_at x.queue v m.collected) in
            h.answers v ∙ ap₂ (λ xs ys. xs ++ ys) (sym there) (sym (if_false (u == v) next.more (h.more v) (ne_eqb _ _ other)))
      ];
    }

pub events_keep : EventsKeepWhatHolds
events_keep x events m n more is h (ends k) = record { holds = h; collected = sym (append_nil m.collected) }
events_keep x events m n more is h (dispatches p rest k l bs go) = let r = events_keep x rest (dispatched x p m) n more is (dispatch_holds x p m h) go in record { holds = r.holds; collected = r.collected }
events_keep x events m n more is h (event.works w came worker rest k l bs lt one go) = let r = events_keep x rest (with_worker w worker m) n more is (work_holds x w came worker m h one) go in record { holds = r.holds; collected = r.collected }
events_keep x events m n more is h (collects a rest k l bs next go) =
    let r = events_keep x rest (collected a m) n bs is (collect_holds x a m h next) go in
    record { holds = r.holds; collected = r.collected ∙ append_twice m.collected (a ∷ []) bs }
events_keep x events m n more is h (waits rest k l bs none go) = events_keep x rest m n more is h go
