-- A round, of its parts.
use Rattle.std.proofs.Common.{◌≡◌, ℕ, zero, suc, List, [], ◌∷◌, ◌++◌, length, map, replicate, Option, Some, None, refl, ap, ap₂, sym, ◌∙◌, subst}
use Rattle.nf_base.specs.declared.packet.Packet.{Packet}
use Rattle.shard_machine.specs.declared.event.Answer.{Answer}
use Rattle.shard_machine.specs.declared.event.Event.{Event}
use Rattle.shard_machine.specs.declared.event.Event.TheVariants.{Dispatch, Work, Collect}
use Rattle.shard_machine.specs.Machine.{Setup, Worker, Machine, packets_of, packets_at, answers_at}
use Rattle.shard_machine.specs.Events.{Plays, IsNext}
use Rattle.shard_machine.specs.Events as event
use Rattle.shard_machine.specs.Moments.{IsSetup, Holds, IsAtStop}
use Rattle.shard_machine.proofs.Sent.{append_nil, append_twice, map_append, same_behind, packets_append, packets_of_at, one_at}
use Rattle.shard_machine.proofs.Kept.{events_keep}
use Rattle.shard_machine.proofs.Ran.{stop_packet}
use Rattle.shard_core.specs.declared.collected.Stop.{Stop}
use Rattle.shard_core.specs.Apart.{works_from}
use Rattle.shard_core.specs.Sharded.{Sharded, StandsFor, IsStopOf, answer_of}
use Rattle.shard_core.proofs.Played.{plays_append}
use Rattle.shard_rounds.specs.declared.round.Round.{Round}
use Rattle.shard_rounds.specs.Workings.{AreDone, WorkedAll}
use Rattle.shard_rounds.specs.Rounds.{all_dispatched, waits_at, round_events, CollectedAll, RanRound}
use Rattle.shard_rounds.proofs.Batch.{plays_given, waits_given}
use Rattle.shard_rounds.proofs.Called.{works_same}

same_first : {A : Type 0} (x y : A) (xs ys : List A) → x ∷ xs ≡ y ∷ ys → x ≡ y
same_first x y xs ys e = cc

-- the next packet of a queue is worked where its worker has an answer more
more_is_next : (x : Setup) (m : Machine) (p : Packet) (later : List Packet) (a : Answer) (more : List Answer) → Holds x m → m.dispatched ≡ packets_of m.collected ++ p ∷ later → (m.worker (x.queue p)).worked ≡ answers_at x.queue (x.queue p) m.collected ++ a ∷ more → IsNext x m a
more_is_next x m p later a more h e worked =
    let u = x.queue p in
    let sent : packets_at x.queue u m.dispatched ≡ packets_of (answers_at x.queue u m.collected) ++ p ∷ packets_at x.queue u later =
    ap (packets_at x.queue u) e ∙ packets_append x.queue u (packets_of m.collected) (p ∷ later) ∙ ap₂ (λ ps qs. ps ++ qs) (packets_of_at x.queue u m.collected) (one_at x.queue u p later refl) in
    let had : packets_of (answers_at x.queue u m.collected) ++ a.packet ∷ (packets_of more ++ (m.worker u).waiting) ≡ packets_of (answers_at x.queue u m.collected) ++ p ∷ packets_at x.queue u later =
    sym (append_twice (packets_of (answers_at x.queue u m.collected)) (a.packet ∷ packets_of more) (m.worker u).waiting)
    ∙ ap (λ zs. zs ++ (m.worker u).waiting) (sym (map_append (λ (b : Answer). b.packet) (answers_at x.queue u m.collected) (a ∷ more)) ∙ ap packets_of (sym worked)) ∙ (h.worker u).order ∙ sent in
    let is : a.packet ≡ p = same_first a.packet p (packets_of more ++ (m.worker u).waiting) (packets_at x.queue u later) (same_behind (packets_of (answers_at x.queue u m.collected)) _ _ had) in
    let home : x.queue a.packet ≡ u = ap x.queue is in
    record {
      later = later;
      dispatched = e ∙ ap (λ (z : Packet). packets_of m.collected ++ z ∷ later) (sym is);
      more = more;
      worked = subst (λ (j : ℕ). (m.worker j).worked ≡ answers_at x.queue j m.collected ++ a ∷ more) (sym home) worked;
    }

-- where no worker has a packet that it could work, none is next and none is stopped at, none is left
module _ (x : Setup) (m : Machine) (is : IsSetup x) (h : Holds x m) (done : AreDone x m) (none : (a : Answer) → IsNext x m a → ⊥) (no_stop : (p : Packet) (chain : ℕ) → IsAtStop x m p chain → ⊥) where
  of_stopped : (p : Packet) (later : List Packet) (stopped : Option ℕ) → m.dispatched ≡ packets_of m.collected ++ p ∷ later → (m.worker (x.queue p)).worked ≡ answers_at x.queue (x.queue p) m.collected → (m.worker (x.queue p)).stopped ≡ stopped → ⊥
  of_stopped p later None e at s =
      let waits : (m.worker (x.queue p)).waiting ≡ p ∷ packets_at x.queue (x.queue p) later = stop_packet x m h p later e at in
      let bad : [] ≡ p ∷ packets_at x.queue (x.queue p) later = sym (done (x.queue p) (is.below p) s) ∙ waits in
      cc
  of_stopped p later (Some chain) e at s = no_stop p chain (record { later = later; next = e; stopped = s; at = at })

  of_more : (p : Packet) (later : List Packet) (more : List Answer) → m.dispatched ≡ packets_of m.collected ++ p ∷ later → (m.worker (x.queue p)).worked ≡ answers_at x.queue (x.queue p) m.collected ++ more → ⊥
  of_more p later [] e worked = of_stopped p later (m.worker (x.queue p)).stopped e (worked ∙ append_nil (answers_at x.queue (x.queue p) m.collected)) refl
  of_more p later (a ∷ more) e worked = none a (more_is_next x m p later a more h e worked)

  of_left : (left : List Packet) → m.dispatched ≡ packets_of m.collected ++ left → packets_of m.collected ≡ m.dispatched
  of_left [] e = sym (e ∙ append_nil (packets_of m.collected))
  of_left (p ∷ later) e = absurd (of_more p later (h.more (x.queue p)) e (h.answers (x.queue p)))

  pub all_collected : packets_of m.collected ≡ m.dispatched
  all_collected = of_left h.left h.first

-- the packets that events dispatch
abbrev sent_in : List Event → List Packet
sent_in [] = []
sent_in (Dispatch p ∷ es) = p ∷ sent_in es
sent_in (Work w ∷ es) = sent_in es
sent_in (Collect ∷ es) = sent_in es

plays_sent : (x : Setup) (es : List Event) (m n : Machine) (got : List Answer) → Plays x es m n got → n.dispatched ≡ m.dispatched ++ sent_in es
plays_sent x es m n got (event.ends _) = sym (append_nil m.dispatched)
plays_sent x es m n got (event.dispatches p rest _ _ _ go) = plays_sent x rest (event.dispatched x p m) n got go ∙ append_twice m.dispatched (p ∷ []) (sent_in rest)
plays_sent x es m n got (event.works w came worker rest _ _ _ lt one go) = plays_sent x rest (event.with_worker w worker m) n got go
plays_sent x es m n got (event.collects a rest _ _ more next go) = plays_sent x rest (event.collected a m) n more go
plays_sent x es m n got (event.waits rest _ _ _ none go) = plays_sent x rest m n got go

sent_batch : (ps : List Packet) (es : List Event) → sent_in (map (λ (p : Packet). Dispatch p) ps ++ es) ≡ ps ++ sent_in es
sent_batch [] es = refl
sent_batch (p ∷ ps) es = ap (λ (qs : List Packet). p ∷ qs) (sent_batch ps es)

works_send : (w k : ℕ) (es : List Event) → sent_in (replicate k (Work w) ++ es) ≡ sent_in es
works_send w zero es = refl
works_send w (suc k) es = works_send w k es

all_works_send : (counts : ℕ → ℕ) (w n : ℕ) (es : List Event) → sent_in (works_from counts w n ++ es) ≡ sent_in es
all_works_send counts w zero es = refl
all_works_send counts w (suc n) es = ap sent_in (append_twice (replicate (counts w) (Work w)) (works_from counts (suc w) n) es) ∙ works_send w (counts w) (works_from counts (suc w) n ++ es) ∙ all_works_send counts (suc w) n es

collects_send : (n : ℕ) → sent_in (replicate n Collect) ≡ []
collects_send zero = refl
collects_send (suc n) = collects_send n

round_sends : (x : Setup) (m : Machine) (batch : List Packet) (n : ℕ) → sent_in (round_events x m batch n) ≡ batch
round_sends x m batch n =
    sent_batch batch (works_from (waits_at x m batch) 0 x.workers ++ replicate n Collect)
    ∙ ap (λ (ps : List Packet). batch ++ ps) (all_works_send (waits_at x m batch) 0 x.workers (replicate n Collect) ∙ collects_send n)
    ∙ append_nil batch

-- a round's three parts
pub ran_round : (x : Setup) (m : Machine) (batch : List Packet) (round : Round) (old worked new : Sharded) → StandsFor x m old → WorkedAll x (all_dispatched x batch m) worked → ((n : Machine) → StandsFor x n worked → CollectedAll x n round.handled new) → ((n : Machine) → StandsFor x n new → IsStopOf x n round.stop) → RanRound x m batch round new
ran_round x m batch round old worked new h works collects stop =
    let got = collects works.machine works.stands in
    let n = got.so_far.machine in
    let counts : works_from (λ w. length ((all_dispatched x batch m).worker w).waiting) 0 x.workers ≡ works_from (waits_at x m batch) 0 x.workers = works_same _ _ 0 x.workers (λ w lt. waits_given x batch m w) in
    let plays : Plays x (round_events x m batch (length round.handled)) m n (map answer_of round.handled) =
    plays_given x batch (works_from (waits_at x m batch) 0 x.workers ++ replicate (length round.handled) Collect) m n (map answer_of round.handled)
    (plays_append x (works_from (waits_at x m batch) 0 x.workers) (replicate (length round.handled) Collect) (all_dispatched x batch m) works.machine n [] (map answer_of round.handled)
    (subst (λ (es : List Event). Plays x es (all_dispatched x batch m) works.machine []) counts works.plays) got.so_far.plays) in
    let stands = got.so_far.stands in
    let done : AreDone x n = λ w lt.
    subst (λ (v : ℕ → Worker). (v w).stopped ≡ None → (v w).waiting ≡ []) (sym got.so_far.workers) (works.done w lt) in
    record {
      machine = n;
      plays = plays;
      queues = got.so_far.queues;
      dispatched = plays_sent x (round_events x m batch (length round.handled)) m n (map answer_of round.handled) plays ∙ ap (λ (ps : List Packet). m.dispatched ++ ps) (round_sends x m batch (length round.handled));
      collected = (events_keep x (round_events x m batch (length round.handled)) m n (map answer_of round.handled) h.setup.is h.holds plays).collected;
      stop = stop n stands;
      all = λ none. all_collected x n h.setup.is stands.holds done got.none (subst (λ (s : Option Stop). IsStopOf x n s) none (stop n stands));
      stands = stands;
    }
