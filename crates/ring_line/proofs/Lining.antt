-- What the workers of all queues stand for, call by call.
use Rattle.std.proofs.Common.{◌≡◌, ◌<◌, ◌+◌, ℕ, zero, suc, List, [], ◌∷◌, ◌++◌, length, map, ◌⊎◌, Option, Some, None, slice_get, slice_set, drop, refl, ap, ap₂, sym, ◌∙◌, subst, arith, inl, inr}
use Rattle.std.proofs.lemmas.List.{length-append}
use Rattle.std.proofs.lemmas.Option.{same_Some, slice_get_within}
use Rattle.nf_base.specs.declared.packet.Packet.{Packet}
use Rattle.nf_base.specs.declared.share.Share.{Share}
use Rattle.nf_base.specs.Step.{opening}
use Rattle.nf_base.specs.Text.{Function}
use Rattle.nf_base.proofs.Mixes.{got_set}
use Rattle.vig_tables.specs.TablesState.{TablesState}
use Rattle.shard_machine.specs.declared.event.Answer.{Answer}
use Rattle.shard_laws.specs.Queues.{time_after, last_time}
use Rattle.shard_machine.specs.Machine.{Setup, lines_of, packets_at}
use Rattle.shard_machine.proofs.Sent.{append_nil, append_twice, map_append, packets_append, one_at, none_at}
use Rattle.shard_core.specs.declared.collected.Collected.{Collected}
use Rattle.shard_core.specs.Sharded.{answer_of}
use Rattle.shard_core.proofs.Starting.{same_share}
use Rattle.shard_machine.specs.Moments.{IsSetup}
use Rattle.ring_line.specs.declared.halt.Halt.{Halt}
use Rattle.ring_line.specs.declared.queue_worker.QueueWorker.{QueueWorker}
use Rattle.ring_line.specs.declared.line.Line.{Line}
use Rattle.ring_line.specs.Handled.{CameTo}
use Rattle.ring_line.specs.Handed.{Finishes}
use Rattle.ring_line.specs.QueueWorkers.{QueueWorkerStands, QueueWorkerHalted}
use Rattle.ring_line.specs.Plays.{WorkerEnd, collected_at}
use Rattle.ring_line.specs.Lines.{LineStands, LineFinishes, AreFinished, AreStarted, EndsAs, ComesFirst}
use Rattle.ring_line.proofs.InOrder.{one_here, none_here, collected_append}

-- a fact of each of some, where one was changed
pub each_set : {A : Type 0} (P : ℕ → A → Type 0) (xs : List A) (q : ℕ) (y : A) → ((w : ℕ) (z : A) → slice_get xs w ≡ Some z → P w z) → P q y → (w : ℕ) (z : A) → slice_get (slice_set xs q y) w ≡ Some z → P w z
each_set P xs q y each here w z at = elim (got_set xs q w y z at) [
  | inl e ↦ subst (λ (v : ℕ). P v z) (sym e.0) (subst (P q) e.1 here)
  | inr e ↦ each w z e.1
]

-- the same, and one of those that were not changed is known to be another
pub each_other : {A : Type 0} (P : ℕ → A → Type 0) (xs : List A) (q : ℕ) (y : A) → ((w : ℕ) (z : A) → (q ≡ w → ⊥) → slice_get xs w ≡ Some z → P w z) → P q y → (w : ℕ) (z : A) → slice_get (slice_set xs q y) w ≡ Some z → P w z
each_other P xs q y each here w z at = elim (got_set xs q w y z at) [
  | inl e ↦ subst (λ (v : ℕ). P v z) (sym e.0) (subst (P q) e.1 here)
  | inr e ↦ each w z (λ same. e.0 (sym same)) e.1
]

pub set_there : {A : Type 0} (xs : List A) (q : ℕ) (y z : A) → slice_get (slice_set xs q y) q ≡ Some z → y ≡ z
set_there xs q y z at = elim (got_set xs q q y z at) [
  | inl e ↦ e.1
  | inr e ↦ absurd (e.0 refl)
]

pub some_of : {A : Type 0} (xs : List A) (w : ℕ) → w < length xs → (x : A) × (slice_get xs w ≡ Some x)
some_of [] w lt = absurd (omega (arith, lt))
some_of (x ∷ xs) zero lt = (x, refl)
some_of (x ∷ xs) (suc w) lt = some_of xs w (omega (arith, lt))

abbrev pub StandAt : {G : Type 0} → Setup → List Packet → List Collected → ℕ → QueueWorker G → Type 0
StandAt x packets got w queue_worker = QueueWorkerStands queue_worker x.function (x.share w) (packets_at x.queue w packets) (collected_at w got)

-- ---- a packet more

sent_here : (x : Setup) (w : ℕ) (packets : List Packet) (p : Packet) → x.queue p ≡ w → packets_at x.queue w packets ++ p ∷ [] ≡ packets_at x.queue w (packets ++ p ∷ [])
sent_here x w packets p home = ap (λ (ps : List Packet). packets_at x.queue w packets ++ ps) (sym (one_at x.queue w p [] home)) ∙ sym (packets_append x.queue w packets (p ∷ []))

sent_there : (x : Setup) (w : ℕ) (packets : List Packet) (p : Packet) → (x.queue p ≡ w → ⊥) → packets_at x.queue w packets ≡ packets_at x.queue w (packets ++ p ∷ [])
sent_there x w packets p ne = sym (append_nil (packets_at x.queue w packets)) ∙ ap (λ (ps : List Packet). packets_at x.queue w packets ++ ps) (sym (none_at x.queue w p [] ne)) ∙ sym (packets_append x.queue w packets (p ∷ []))

pub sent_queue_workers : {G : Type 0} (x : Setup) (packets : List Packet) (got : List Collected) (queue_workers : List (QueueWorker G)) (q : ℕ) (p : Packet) (after : QueueWorker G) → x.queue p ≡ q → ((w : ℕ) (queue_worker : QueueWorker G) → slice_get queue_workers w ≡ Some queue_worker → StandAt x packets got w queue_worker) →
    QueueWorkerStands after x.function (x.share q) (packets_at x.queue q packets ++ p ∷ []) (collected_at q got) → (w : ℕ) (queue_worker : QueueWorker G) → slice_get (slice_set queue_workers q after) w ≡ Some queue_worker → StandAt x (packets ++ p ∷ []) got w queue_worker
sent_queue_workers x packets got queue_workers q p after home each here =
    each_other (StandAt x (packets ++ p ∷ []) got) queue_workers q after
    (λ w queue_worker ne at. subst (λ (ps : List Packet). QueueWorkerStands queue_worker x.function (x.share w) ps (collected_at w got)) (sent_there x w packets p (λ e. ne (sym home ∙ e))) (each w queue_worker at))
    (subst (λ (ps : List Packet). QueueWorkerStands after x.function (x.share q) ps (collected_at q got)) (sent_here x q packets p home) here)

pub sent_order : (x : Setup) (packets : List Packet) (got : List Collected) (order : List ℕ) (q : ℕ) (p : Packet) → x.queue p ≡ q → map (λ (c : Collected). c.queue) got ++ order ≡ map x.queue packets → map (λ (c : Collected). c.queue) got ++ (order ++ q ∷ []) ≡ map x.queue (packets ++ p ∷ [])
sent_order x packets got order q p home e =
    sym (append_twice (map (λ (c : Collected). c.queue) got) order (q ∷ [])) ∙ ap (λ (qs : List ℕ). qs ++ q ∷ []) e ∙ ap (λ (k : ℕ). map x.queue packets ++ k ∷ []) (sym home) ∙ sym (map_append x.queue packets (p ∷ []))

-- ---- an answer more

got_here : (w : ℕ) (got : List Collected) (c : Collected) → c.queue ≡ w → collected_at w got ++ answer_of c ∷ [] ≡ collected_at w (got ++ c ∷ [])
got_here w got c home = ap (λ (as_ : List Answer). collected_at w got ++ as_) (sym (one_here w c [] home)) ∙ sym (collected_append w got (c ∷ []))

got_there : (w : ℕ) (got : List Collected) (c : Collected) → (c.queue ≡ w → ⊥) → collected_at w got ≡ collected_at w (got ++ c ∷ [])
got_there w got c ne = sym (append_nil (collected_at w got)) ∙ ap (λ (as_ : List Answer). collected_at w got ++ as_) (sym (none_here w c [] ne)) ∙ sym (collected_append w got (c ∷ []))

pub got_queue_workers : {G : Type 0} (x : Setup) (packets : List Packet) (got : List Collected) (queue_workers : List (QueueWorker G)) (c : Collected) (after : QueueWorker G) → ((w : ℕ) (queue_worker : QueueWorker G) → slice_get queue_workers w ≡ Some queue_worker → StandAt x packets got w queue_worker) →
    QueueWorkerStands after x.function (x.share c.queue) (packets_at x.queue c.queue packets) (collected_at c.queue got ++ answer_of c ∷ []) → (w : ℕ) (queue_worker : QueueWorker G) → slice_get (slice_set queue_workers c.queue after) w ≡ Some queue_worker → StandAt x packets (got ++ c ∷ []) w queue_worker
got_queue_workers x packets got queue_workers c after each here =
    each_other (StandAt x packets (got ++ c ∷ [])) queue_workers c.queue after
    (λ w queue_worker ne at. subst (λ (as_ : List Answer). QueueWorkerStands queue_worker x.function (x.share w) (packets_at x.queue w packets) as_) (got_there w got c ne) (each w queue_worker at))
    (subst (λ (as_ : List Answer). QueueWorkerStands after x.function (x.share c.queue) (packets_at x.queue c.queue packets) as_) (got_here c.queue got c refl) here)

pub got_order : (packets : List ℕ) (got : List Collected) (order rest : List ℕ) (c : Collected) → order ≡ c.queue ∷ rest → map (λ (d : Collected). d.queue) got ++ order ≡ packets → map (λ (d : Collected). d.queue) (got ++ c ∷ []) ++ rest ≡ packets
got_order packets got order rest c is e =
    ap (λ (qs : List ℕ). qs ++ rest) (map_append (λ (d : Collected). d.queue) got (c ∷ [])) ∙ append_twice (map (λ (d : Collected). d.queue) got) (c.queue ∷ []) rest
    ∙ ap (λ (qs : List ℕ). map (λ (d : Collected). d.queue) got ++ qs) (sym is) ∙ e

pub popped : (q : ℕ) (order rest : List ℕ) → ComesFirst q order → rest ≡ drop 1 order → order ≡ q ∷ rest
popped q [] rest first e = absurd first
popped q (p ∷ ps) rest first e = ap₂ (λ (n : ℕ) (qs : List ℕ). n ∷ qs) first (sym e)

-- the time of the last handled packet, after one more answer
pub last_more : (time : ℕ) (xs : List Answer) (a : Answer) → last_time time (lines_of (xs ++ a ∷ [])) ≡ time_after (last_time time (lines_of xs)) a.packet
last_more time [] a = refl
last_more time (b ∷ xs) a = last_more (time_after time b.packet) xs a

pub got_time : (time : ℕ) (got : List Collected) (c : Collected) → time ≡ last_time 0 (lines_of (map answer_of got)) → time_after time c.packet ≡ last_time 0 (lines_of (map answer_of (got ++ c ∷ [])))
got_time time got c e =
    ap (λ (t : ℕ). time_after t c.packet) e ∙ sym (last_more 0 (map answer_of got) (answer_of c)) ∙ ap (λ (as_ : List Answer). last_time 0 (lines_of as_)) (sym (map_append answer_of got (c ∷ [])))

-- ---- the beginning

pub got_last : {A : Type 0} (xs : List A) (y z : A) (w : ℕ) → slice_get (xs ++ y ∷ []) w ≡ Some z → (slice_get xs w ≡ Some z) ⊎ ((w ≡ length xs) × (y ≡ z))
got_last [] y z zero e = inr (refl, same_Some _ _ e)
got_last [] y z (suc w) e = cc
got_last (x ∷ xs) y z zero e = inl e
got_last (x ∷ xs) y z (suc w) e = elim (got_last xs y z w e) [
  | inl q ↦ inl q
  | inr q ↦ inr (ap suc q.0, q.1)
]

pub started_more : {G : Type 0} (f : Function) (n : ℕ) (queue_workers : List (QueueWorker G)) (queue_worker : QueueWorker G) (share : Share) → AreStarted f n queue_workers → share.queue ≡ length queue_workers → share.of ≡ n → QueueWorkerStands queue_worker f share [] [] → AreStarted f n (queue_workers ++ queue_worker ∷ [])
started_more f n queue_workers queue_worker share h queue of stands = record {
  each = λ w z at. elim (got_last queue_workers queue_worker z w at) [
    | inl q ↦ h.each w z q
    | inr q ↦ (share, queue ∙ sym q.0, of, subst (λ z. QueueWorkerStands z f share [] []) q.1 stands)
  ];
}

pub started_stands : {G : Type 0} (line : Line G) (x : Setup) (f : Function) (n : ℕ) → IsSetup x → x.function ≡ f → x.workers ≡ n → length line.queue_workers ≡ n → line.order.items ≡ [] → line.time ≡ 0 → AreStarted f n line.queue_workers → LineStands line x [] []
started_stands line x f n is function workers long none time h = record {
  time = time;
  count = long ∙ sym workers;
  order = none;
  queue_workers = λ w queue_worker at.
      let lt : w < length line.queue_workers = slice_get_within line.queue_workers w queue_worker at in
      let r = h.each w queue_worker at in
      let mine : w < x.workers = omega (arith, lt, long, workers) in
      let same : r.0 ≡ x.share w = same_share r.0 (x.share w) (r.1 ∙ sym (is.shares.queue w mine)) (r.2 ∙ sym workers ∙ sym (is.shares.of w mine)) in
      subst (λ (g : Function). QueueWorkerStands queue_worker g (x.share w) [] []) (sym function) (subst (λ (s : Share). QueueWorkerStands queue_worker f s [] []) same r.3);
}

-- ---- the end

pub finished_none : {G : Type 0} → AreFinished {G = G} [] []
finished_none = record { count = refl; each = λ w queue_worker tables at. cc }

pub finished_more : {G : Type 0} (queue_workers : List (QueueWorker G)) (parts : List TablesState) (queue_worker : QueueWorker G) (tables : TablesState) → AreFinished queue_workers parts →
    ((f : Function) (share : Share) (packets : List Packet) (answers : List Answer) → QueueWorkerStands queue_worker f share packets answers → Finishes (QueueWorkerHalted queue_worker) f share packets answers tables) → AreFinished (queue_workers ++ queue_worker ∷ []) (parts ++ tables ∷ [])
finished_more {G} queue_workers parts queue_worker tables h here = record {
  count = length-append parts (tables ∷ []) ∙ ap (λ (n : ℕ). n + 1) h.count ∙ sym (length-append queue_workers (queue_worker ∷ []));
  each = λ w p t at got. elim (got_last queue_workers queue_worker p w at) [
    | inl q ↦ elim (got_last parts tables t w got) [
      | inl r ↦ h.each w p t q r
      | inr r ↦ let lt : w < length queue_workers = slice_get_within queue_workers w p q in absurd (omega (arith, lt, r.0, h.count))
    ]
    | inr q ↦ elim (got_last parts tables t w got) [
      | inl r ↦ let lt : w < length parts = slice_get_within parts w t r in absurd (omega (arith, lt, q.0, h.count))
      | inr r ↦ subst (λ (s : TablesState). (f : Function) (share : Share) (packets : List Packet) (answers : List Answer) → QueueWorkerStands p f share packets answers → Finishes (QueueWorkerHalted p) f share packets answers s) r.1
          (subst (λ (o : QueueWorker G). (f : Function) (share : Share) (packets : List Packet) (answers : List Answer) → QueueWorkerStands o f share packets answers → Finishes (QueueWorkerHalted o) f share packets answers tables) q.1 here)
    ]
  ];
}

pub all_finished : {G : Type 0} (queue_workers done left : List (QueueWorker G)) (parts : List TablesState) → queue_workers ≡ done ++ left → length left ≡ 0 → AreFinished done parts → AreFinished queue_workers parts
all_finished queue_workers done [] parts e none h = subst (λ ps. AreFinished ps parts) (sym (e ∙ append_nil done)) h
all_finished queue_workers done (p ∷ left) parts e none h = absurd (omega (arith, none))

module _ {G : Type 0} (line : Line G) (x : Setup) (packets : List Packet) (got : List Collected) (parts : List TablesState) (st : LineStands line x packets got) (fin : AreFinished line.queue_workers parts) where
  -- what the worker of a queue came to
  one_end : (w : ℕ) (queue_worker : QueueWorker G) (tables : TablesState) → slice_get line.queue_workers w ≡ Some queue_worker → slice_get parts w ≡ Some tables → Finishes (QueueWorkerHalted queue_worker) x.function (x.share w) (packets_at x.queue w packets) (collected_at w got) tables
  one_end w queue_worker tables at there = fin.each w queue_worker tables at there x.function (x.share w) (packets_at x.queue w packets) (collected_at w got) (st.queue_workers w queue_worker at)

  abbrev end_by : (w : ℕ) (o : Option (QueueWorker G)) → slice_get line.queue_workers w ≡ o → (p : Option TablesState) → slice_get parts w ≡ p → WorkerEnd
  end_by w (Some queue_worker) at (Some tables) there = let e = one_end w queue_worker tables at there in record { more = e.more; halt = e.halt; state = tables.state }
  end_by w (Some queue_worker) at None there = record { more = []; halt = None; state = opening x.function }
  end_by w None at p there = record { more = []; halt = None; state = opening x.function }

  abbrev end_of : ℕ → WorkerEnd
  end_of w = end_by w (slice_get line.queue_workers w) refl (slice_get parts w) refl

  came_by : (w : ℕ) (o : Option (QueueWorker G)) (at : slice_get line.queue_workers w ≡ o) (p : Option TablesState) (there : slice_get parts w ≡ p) → w < x.workers →
      CameTo x.function (x.share w) (opening x.function) (packets_at x.queue w packets) (collected_at w got ++ (end_by w o at p there).more) (end_by w o at p there).halt (end_by w o at p there).state
  came_by w (Some queue_worker) at (Some tables) there lt = (one_end w queue_worker tables at there).came
  came_by w (Some queue_worker) at None there lt = let s = some_of parts w (omega (arith, lt, fin.count, st.count)) in let bad : Some s.0 ≡ None = sym s.1 ∙ there in cc
  came_by w None at p there lt = let s = some_of line.queue_workers w (omega (arith, lt, st.count)) in let bad : Some s.0 ≡ None = sym s.1 ∙ at in cc

  tables_by : (w : ℕ) (o : Option (QueueWorker G)) (at : slice_get line.queue_workers w ≡ o) (p : Option TablesState) (there : slice_get parts w ≡ p) (t : TablesState) → p ≡ Some t → EndsAs x.function (x.share w) (end_by w o at p there) t
  tables_by w (Some queue_worker) at (Some tables) there t e =
      let same : tables ≡ t = same_Some tables t e in
      let r = one_end w queue_worker tables at there in
      record { decls = ap (λ (s : TablesState). s.decls) (sym same) ∙ r.decls; share_is = ap (λ (s : TablesState). s.share) (sym same) ∙ r.share_is; state_is = ap (λ (s : TablesState). s.state) (sym same) }
  tables_by w (Some queue_worker) at None there t e = cc
  tables_by w None at p there t e =
      let lt : w < length parts = slice_get_within parts w t (there ∙ e) in
      let s = some_of line.queue_workers w (omega (arith, lt, fin.count)) in
      let bad : Some s.0 ≡ None = sym s.1 ∙ at in cc

  halted_by : (w : ℕ) (o : Option (QueueWorker G)) (at : slice_get line.queue_workers w ≡ o) (p : Option TablesState) (there : slice_get parts w ≡ p) (queue_worker : QueueWorker G) (halt : Halt) → o ≡ Some queue_worker → QueueWorkerHalted queue_worker halt → ((end_by w o at p there).halt ≡ Some halt) × ((end_by w o at p there).more ≡ [])
  halted_by w (Some q) at (Some tables) there queue_worker halt e has =
      let same : q ≡ queue_worker = same_Some q queue_worker e in
      (one_end w q tables at there).halted halt (subst (λ (z : QueueWorker G). QueueWorkerHalted z halt) (sym same) has)
  halted_by w (Some q) at None there queue_worker halt e has =
      let lt : w < length line.queue_workers = slice_get_within line.queue_workers w q at in
      let s = some_of parts w (omega (arith, lt, fin.count)) in
      let bad : Some s.0 ≡ None = sym s.1 ∙ there in cc
  halted_by w None at p there queue_worker halt e has = cc

  pub line_finishes : LineFinishes line x packets got parts
  line_finishes = record {
    ends = end_of;
    came = record { order = st.order; thread_workers = λ w lt. came_by w (slice_get line.queue_workers w) refl (slice_get parts w) refl lt };
    count = fin.count ∙ st.count;
    tables = λ w t at. tables_by w (slice_get line.queue_workers w) refl (slice_get parts w) refl t at;
    halted = λ w queue_worker halt at has. halted_by w (slice_get line.queue_workers w) refl (slice_get parts w) refl queue_worker halt at has;
  }
