-- Packets handled one after another.
use Rattle.std.proofs.Common.{◌≡◌, ℕ, suc, List, [], ◌∷◌, ◌++◌, Some, None, refl, ap, sym, ◌∙◌, subst}
use Rattle.nf_base.specs.declared.packet.Packet.{Packet}
use Rattle.nf_base.specs.declared.share.Share.{Share}
use Rattle.nf_base.specs.declared.state.State.{State}
use Rattle.nf_base.specs.Text.{Function}
use Rattle.nf_engine.specs.Handlings.{StopsAt}
use Rattle.shard_machine.specs.declared.event.Answer.{Answer}
use Rattle.shard_machine.specs.declared.event.Worked.TheVariants as came
use Rattle.shard_machine.specs.Machine.{Worker, packets_of}
use Rattle.shard_machine.specs.Events as event
use Rattle.shard_machine.proofs.Sent.{append_nil, append_twice, map_append}
use Rattle.ring_line.specs.declared.halt.Halt.{Halt}
use Rattle.ring_line.specs.Handled as handled
use Rattle.ring_line.specs.Handled.{Handles, EndsAt, CameTo, WorkedTimes, WorkedThrough, HandlingIsWork}

-- the machine's worker with these answers and these packets
abbrev worker_with : List Answer → List Packet → State → Worker
worker_with answers waiting state = record { worked = answers; waiting = waiting; state = state; stopped = None }

packets_more : (before : List Answer) (a : Answer) (waiting : List Packet) → packets_of (before ++ a ∷ []) ++ waiting ≡ packets_of before ++ a.packet ∷ waiting
packets_more before a waiting = ap (λ (ps : List Packet). ps ++ waiting) (map_append (λ (b : Answer). b.packet) before (a ∷ [])) ∙ append_twice (packets_of before) (a.packet ∷ []) waiting

record Worked (f : Function) (share : Share) (first : State) (answers : List Answer) (state : State) (waiting : List Packet) : Type 0 where
  count : ℕ
  times : WorkedTimes f share (worker_with [] (packets_of answers ++ waiting) first) count (worker_with answers waiting state)

works : (f : Function) (share : Share) (first : State) (answers : List Answer) (state : State) (waiting : List Packet) → Handles f share first answers state → Worked f share first answers state waiting
works f share first answers state waiting handled.none_yet = record { count = 0; times = handled.begins }
works f share first answers state waiting (handled.one_more before s t packet done h own step) =
    let r = works f share first before s (packet ∷ waiting) h in
    let a : Answer = record { packet = packet; done = done } in
    record {
      count = suc r.count;
      times = handled.goes_on r.count came.Done (worker_with before (packet ∷ waiting) s) (worker_with (before ++ a ∷ []) waiting t)
          (subst (λ (ps : List Packet). WorkedTimes f share (worker_with [] ps first) r.count (worker_with before (packet ∷ waiting) s)) (sym (packets_more before a waiting)) r.times)
          (event.works (worker_with before (packet ∷ waiting) s) packet waiting done t refl refl own step);
    }

worked_all : (f : Function) (share : Share) (first : State) (packets : List Packet) (answers : List Answer) (state : State) → CameTo f share first packets answers None state → WorkedThrough f share first packets answers None state
worked_all f share first packets answers state h =
    let r = works f share first answers state [] h.0 in
    record {
      count = r.count;
      worker = worker_with answers [] state;
      times = subst (λ (ps : List Packet). WorkedTimes f share (worker_with [] ps first) r.count (worker_with answers [] state)) (append_nil (packets_of answers) ∙ h.1) r.times;
      worked = refl;
      ends = (refl, refl, refl);
    }

worked_front : (f : Function) (share : Share) (first : State) (packets : List Packet) (answers : List Answer) (halt : Halt) (state : State) → EndsAt f share first packets answers halt → WorkedThrough f share first packets answers (Some halt) state
worked_front f share first packets answers halt state h =
    let waiting = halt.packet ∷ h.later in
    let r = works f share first answers h.state waiting h.handles in
    let before = worker_with answers waiting h.state in
    record {
      count = suc r.count;
      worker = record before { stopped = Some halt.chain };
      times = handled.goes_on r.count came.Stopped before (record before { stopped = Some halt.chain })
          (subst (λ (ps : List Packet). WorkedTimes f share (worker_with [] ps first) r.count before) (sym h.packets_are) r.times)
          (event.stops before halt.packet h.later h.stops.fields h.stops.choices halt.chain refl refl h.stops.stop);
      worked = refl;
      ends = (refl, (h.later, refl));
    }

pub handling_is_work : HandlingIsWork
handling_is_work f share first packets answers None state h = worked_all f share first packets answers state h
handling_is_work f share first packets answers (Some halt) state h = worked_front f share first packets answers halt state h

-- packets that come behind the share's end
pub ends_before : (f : Function) (share : Share) (first : State) (packets more : List Packet) (answers : List Answer) (halt : Halt) → EndsAt f share first packets answers halt → EndsAt f share first (packets ++ more) answers halt
ends_before f share first packets more answers halt h = record {
  state = h.state;
  handles = h.handles;
  later = h.later ++ more;
  packets_are = ap (λ (ps : List Packet). ps ++ more) h.packets_are ∙ append_twice (packets_of answers) (halt.packet ∷ h.later) more;
  stops = h.stops;
}

-- the share ends in packets that come behind others
pub ends_behind : (f : Function) (share : Share) (first state : State) (packets more later : List Packet) (told answers : List Answer) (halt : Halt) → packets_of told ≡ packets → more ≡ packets_of answers ++ halt.packet ∷ later → Handles f share first (told ++ answers) state → StopsAt share f state halt.packet halt.chain → EndsAt f share first (packets ++ more) (told ++ answers) halt
ends_behind f share first state packets more later told answers halt before are handles stops = record {
  state = state;
  handles = handles;
  later = later;
  packets_are =
      ap (λ (ps : List Packet). ps ++ more) (sym before) ∙ ap (λ (ps : List Packet). packets_of told ++ ps) are
      ∙ sym (append_twice (packets_of told) (packets_of answers) (halt.packet ∷ later))
      ∙ ap (λ (ps : List Packet). ps ++ halt.packet ∷ later) (sym (map_append (λ (a : Answer). a.packet) told answers));
  stops = stops;
}
