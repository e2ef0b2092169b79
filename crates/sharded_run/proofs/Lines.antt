-- The workers of a line, once they are at their end, as shards of the machine.
use Rattle.std.proofs.Common.{◌≡◌, ◌<◌, ◌+◌, ℕ, zero, suc, List, [], ◌∷◌, ◌++◌, length, map, Option, Some, None, slice_get, refl, ap, sym, ◌∙◌, subst, arith}
use Rattle.std.specs.List.{AllByRecursion}
use Rattle.std.proofs.lemmas.List.Elements.{recursion_from_All}
use Rattle.std.proofs.lemmas.Option.{same_Some, slice_get_within}
use Rattle.nf_base.specs.declared.func.Func.{Func}
use Rattle.nf_base.specs.declared.keys.Keys.{Keys}
use Rattle.nf_base.specs.declared.packet.Packet.{Packet}
use Rattle.nf_base.specs.declared.share.Share.{Share}
use Rattle.nf_base.specs.declared.state.State.{State}
use Rattle.nf_base.specs.Functions.{function_of}
use Rattle.vig_tables.specs.TablesState.{TablesState}
use Rattle.shard_laws.specs.Queues.{last_time}
use Rattle.shard_machine.specs.declared.event.Answer.{Answer}
use Rattle.shard_machine.specs.Machine.{Machine, Worker, Setup, new_machine, packets_of, lines_of, answers_at}
use Rattle.shard_machine.specs.Moments.{IsSetup, IsAtStop}
use Rattle.shard_machine.proofs.Kept.{new_holds, events_keep}
use Rattle.shard_core.specs.declared.collected.Collected.{Collected}
use Rattle.shard_core.specs.declared.collected.Stop.{Stop}
use Rattle.shard_core.specs.Finished.{tables_in}
use Rattle.shard_core.specs.Held.{Held}
use Rattle.shard_core.specs.Sharded as shards
use Rattle.shard_core.specs.Sharded.{Sharded, WorkerStands, answer_of}
use Rattle.ring_line.specs.declared.halt.Halt.{Halt}
use Rattle.ring_line.specs.declared.line.Line.{Line}
use Rattle.ring_line.specs.Handled.{IsAt}
use Rattle.ring_line.specs.Plays.{WorkerEnd, AllCame, IsPlay, line_events}
use Rattle.ring_line.specs.Lines.{LineStands, LineFinishes, ComesFirst, StandsAtStop, halt_of}
use Rattle.ring_line.proofs.InOrder.{same_at, packets_of_got}
use Rattle.ring_line.proofs.Lined.{in_queue_order, workers_are_a_play, halts_are_stops}
use Rattle.ring_line.proofs.Lining.{some_of}
use Rattle.stream_run.specs.Rules.{queue_by}
use Rattle.sharded_run.specs.Setups.{setup_of}

-- what a worker of the machine holds with these tables
abbrev held_at : Machine → (ℕ → WorkerEnd) → ℕ → TablesState → Held
held_at m ends w t = record {
  tables = t;
  waiting = (m.worker w).waiting;
  answers = (ends w).more;
  stopped = (m.worker w).stopped;
  room = 0;
}

-- those from one of them on
abbrev held_from : Machine → (ℕ → WorkerEnd) → ℕ → List TablesState → List Held
held_from m ends w [] = []
held_from m ends w (t ∷ ts) = held_at m ends w t ∷ held_from m ends (suc w) ts

held_tables : (m : Machine) (ends : ℕ → WorkerEnd) (w : ℕ) (ts : List TablesState) → tables_in (held_from m ends w ts) ≡ ts
held_tables m ends w [] = refl
held_tables m ends w (t ∷ ts) = ap (λ (us : List TablesState). t ∷ us) (held_tables m ends (suc w) ts)

held_long : (m : Machine) (ends : ℕ → WorkerEnd) (w : ℕ) (ts : List TablesState) → length (held_from m ends w ts) ≡ length ts
held_long m ends w [] = refl
held_long m ends w (t ∷ ts) = omega (arith, held_long m ends (suc w) ts)

held_there : (m : Machine) (ends : ℕ → WorkerEnd) (w : ℕ) (ts : List TablesState) (k : ℕ) (held : Held) → slice_get (held_from m ends w ts) k ≡ Some held → (t : TablesState) × (slice_get ts k ≡ Some t) × (held_at m ends (w + k) t ≡ held)
held_there m ends w [] k held at = absurd cc
held_there m ends w (t ∷ ts) zero held at =
    let here : w + 0 ≡ w = omega arith in
    (t, refl, ap (λ (v : ℕ). held_at m ends v t) here ∙ same_Some _ _ at)
held_there m ends w (t ∷ ts) (suc k) held at =
    let r = held_there m ends (suc w) ts k held at in
    let same : w + suc k ≡ suc w + k = omega arith in
    (r.0, r.1, ap (λ (v : ℕ). held_at m ends v r.0) same ∙ r.2)

state_of : (o : Option Halt) (s : State) (worker : Worker) → IsAt o s worker → worker.stopped ≡ None → worker.state ≡ s
state_of None s worker h running = h.2
state_of (Some halt) s worker h running = let bad : Some halt.chain ≡ None = sym h.0 ∙ running in cc

module _ {G : Type 0} (func : Func) (keys : Keys) (workers : ℕ) (share : ℕ → Share) (line : Line G) (packets : List Packet) (got : List Collected) (parts : List TablesState) (is : IsSetup (setup_of (function_of func) keys workers share))
    (st : LineStands line (setup_of (function_of func) keys workers share) packets got) (fin : LineFinishes line (setup_of (function_of func) keys workers share) packets got parts) where
  abbrev x : Setup
  x = setup_of (function_of func) keys workers share

  pub play : IsPlay x packets got fin.ends
  play = workers_are_a_play x packets got line.order.items fin.ends is fin.came

  abbrev m : Machine
  m = play.machine

  worker_stands : (w : ℕ) (t : TablesState) → w < workers → slice_get parts w ≡ Some t → WorkerStands x m w (held_at m fin.ends w t)
  worker_stands w t lt at =
      let out = play.workers w lt in
      let order = in_queue_order x packets got line.order.items fin.ends is fin.came in
      let tables = fin.tables w t at in
      record {
        stands = record {
          worked = out.worked ∙ ap (λ (as_ : List Answer). as_ ++ (fin.ends w).more) (sym (ap (answers_at x.queue w) play.collected ∙ same_at x.queue w got order.queues));
          waiting = refl;
          stopped = refl;
          state = λ running. state_of (fin.ends w).halt (fin.ends w).state (m.worker w) out.at running ∙ sym tables.state_is;
        };
        share = tables.share_is;
      }

  pub shards_of : Sharded
  shards_of = record {
    func = func;
    keys = keys;
    count = workers;
    workers = held_from m fin.ends 0 parts;
    queues = record { items = line.order.items; room = 0 };
    time = line.time;
  }

  pub shards_stand : shards.StandsFor x m shards_of
  unfolding shards_of
  shards_stand =
      let order = in_queue_order x packets got line.order.items fin.ends is fin.came in
      record {
        setup = record { is = is; function = refl; workers = refl; queue = λ p. refl };
        holds = (events_keep x (line_events x packets play.counts (length got)) (new_machine x.function) m (map answer_of got) is (new_holds x) play.plays).holds;
        whole = held_long m fin.ends 0 parts ∙ fin.count;
        workers = λ w held at.
            let r = held_there m fin.ends 0 parts w held at in
            let lt : w < length parts = slice_get_within parts w r.0 r.1 in
            let here : 0 + w ≡ w = omega arith in
            subst (WorkerStands x m w) (ap (λ (v : ℕ). held_at m fin.ends v r.0) (sym here) ∙ r.2) (worker_stands w r.0 (omega (arith, lt, fin.count)) r.1);
        left = order.later;
        sent = play.dispatched ∙ order.packets_are ∙ ap (λ (ps : List Packet). ps ++ order.later) (sym (packets_of_got got) ∙ ap packets_of (sym play.collected));
        order = order.left_are;
        time = st.time ∙ ap (λ (as_ : List Answer). last_time 0 (lines_of as_)) (sym play.collected);
      }

  pub shards_func : shards_of.func ≡ func
  unfolding shards_of
  shards_func = refl

  pub shards_tables : tables_in shards_of.workers ≡ parts
  unfolding shards_of
  shards_tables = held_tables m fin.ends 0 parts

  pub shards_order : shards_of.queues.items ≡ line.order.items
  unfolding shards_of
  shards_order = refl

  pub shards_time : shards_of.time ≡ line.time
  unfolding shards_of
  shards_time = refl

  pub shards_queues : AllByRecursion (λ (c : Collected). c.queue ≡ queue_by keys workers c.packet) got
  shards_queues = recursion_from_All (λ (c : Collected). c.queue ≡ queue_by keys workers c.packet) got play.queues

  first_below : (q : ℕ) (order : List ℕ) (later : List Packet) → order ≡ map x.queue later → ComesFirst q order → q < workers
  first_below q [] later e first = absurd first
  first_below q (p ∷ ps) [] e first = cc
  first_below q (p ∷ ps) (k ∷ later) e first = let same : p ≡ x.queue k = cc in subst (λ (n : ℕ). n < workers) (sym same ∙ first) (is.below k)

  at_order : (stop : Stop) (order : List ℕ) → line.order.items ≡ order → ComesFirst stop.queue order → (fin.ends stop.queue).halt ≡ Some (halt_of stop) → (fin.ends stop.queue).more ≡ [] → (stop.queue ≡ x.queue stop.packet) × IsAtStop x m stop.packet stop.chain
  at_order stop [] e first h none = absurd first
  at_order stop (q ∷ left) e first h none =
      let is_first : line.order.items ≡ stop.queue ∷ left = e ∙ ap (λ (n : ℕ). n ∷ left) first in
      halts_are_stops x packets got stop.queue left fin.ends (halt_of stop) play is (subst (λ (qs : List ℕ). AllCame x packets got qs fin.ends) is_first fin.came) h none

  -- where the line stands at a share's end, the machine is at that stop
  pub line_stop : (stop : Stop) → StandsAtStop line stop → (stop.queue ≡ x.queue stop.packet) × IsAtStop x m stop.packet stop.chain
  line_stop stop s =
      let order = in_queue_order x packets got line.order.items fin.ends is fin.came in
      let lt = first_below stop.queue line.order.items order.later order.left_are s.first in
      let place = some_of line.queue_workers stop.queue (omega (arith, lt, st.count)) in
      let h = fin.halted stop.queue place.0 (halt_of stop) place.1 (s.halted place.0 place.1) in
      at_order stop line.order.items refl s.first h.0 h.1
