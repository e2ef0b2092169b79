-- Packets with what they came to.
use Rattle.std.proofs.Common.{◌≡◌, ℕ, List, [], ◌∷◌, ◌++◌, length, map, refl, ap, sym, ◌∙◌, arith}
use Rattle.std.specs.List.{AllByRecursion}
use Rattle.nf_base.specs.declared.packet.Packet.{Packet}
use Rattle.packet_feed.specs.Arrivals.{Arrival, packet_of}
use Rattle.shard_machine.specs.declared.event.Answer.{Answer}
use Rattle.shard_core.specs.declared.collected.Collected.{Collected}
use Rattle.shard_core.specs.Sharded.{answer_of}
use Rattle.stream_run.specs.Runs.{Handled}
use Rattle.stream_run.specs.Streaming.{arrival_of}
use Rattle.sharded_run.specs.Going.{answer_in}
use Rattle.sharded_run.specs.Answered.{answered}

-- the packets of what was collected
abbrev pub packets_got : List Collected → List Packet
packets_got cs = map (λ (c : Collected). c.packet) cs

one_more : Arrival → Collected → Handled
one_more a c = record { arrival = a; worker = c.queue; done = c.done }

no_tail : {A : Type 0} (x : A) (xs ys : List A) → x ∷ xs ++ ys ≡ [] → ⊥
no_tail x xs ys e = cc

first_is : {A : Type 0} (x y : A) (xs ys : List A) → x ∷ xs ≡ y ∷ ys → x ≡ y
first_is x y xs ys e = cc

rest_is : {A : Type 0} (x y : A) (xs ys : List A) → x ∷ xs ≡ y ∷ ys → xs ≡ ys
rest_is x y xs ys e = cc

-- the answers
pub answers_are : (batch : List Arrival) (cs : List Collected) (left : List Packet) → packets_got cs ++ left ≡ map packet_of batch → map answer_in (answered batch cs) ≡ map answer_of cs
answers_are [] [] left e = refl
answers_are [] (c ∷ cs) left e = absurd (no_tail c.packet (packets_got cs) left e)
answers_are (a ∷ batch) [] left e = refl
answers_are (a ∷ batch) (c ∷ cs) left e =
    let is : c.packet ≡ a.packet = first_is c.packet a.packet (packets_got cs ++ left) (map packet_of batch) e in
    ap (λ (p : Packet). let x : Answer = record { packet = p; done = c.done } in x ∷ map answer_in (answered batch cs)) (sym is)
    ∙ ap (λ (t : List Answer). answer_of c ∷ t) (answers_are batch cs left (rest_is c.packet a.packet (packets_got cs ++ left) (map packet_of batch) e))

-- the workers
pub workers_are : (queue : Packet → ℕ) (batch : List Arrival) (cs : List Collected) (left : List Packet) → packets_got cs ++ left ≡ map packet_of batch → AllByRecursion (λ (c : Collected). c.queue ≡ queue c.packet) cs
    → AllByRecursion (λ (h : Handled). h.worker ≡ queue h.arrival.packet) (answered batch cs)
workers_are queue [] cs left e h = tt
workers_are queue (a ∷ batch) [] left e h = tt
workers_are queue (a ∷ batch) (c ∷ cs) left e h =
    let is : c.packet ≡ a.packet = first_is c.packet a.packet (packets_got cs ++ left) (map packet_of batch) e in
    (h.0 ∙ ap queue is, workers_are queue batch cs left (rest_is c.packet a.packet (packets_got cs ++ left) (map packet_of batch) e) h.1)

-- how many they are
pub answered_long : (batch : List Arrival) (cs : List Collected) (left : List Packet) → packets_got cs ++ left ≡ map packet_of batch → length (answered batch cs) ≡ length cs
answered_long [] [] left e = refl
answered_long [] (c ∷ cs) left e = absurd (no_tail c.packet (packets_got cs) left e)
answered_long (a ∷ batch) [] left e = refl
answered_long (a ∷ batch) (c ∷ cs) left e = omega (arith, answered_long batch cs left (rest_is c.packet a.packet (packets_got cs ++ left) (map packet_of batch) e))

-- all of them
pub arrivals_all : (batch : List Arrival) (cs : List Collected) → packets_got cs ≡ map packet_of batch → map arrival_of (answered batch cs) ≡ batch
arrivals_all [] cs e = refl
arrivals_all (a ∷ batch) [] e = absurd cc
arrivals_all (a ∷ batch) (c ∷ cs) e = ap (λ (t : List Arrival). a ∷ t) (arrivals_all batch cs (rest_is c.packet a.packet (packets_got cs) (map packet_of batch) e))

-- those before a packet
pub record Before (batch : List Arrival) (hs : List Handled) (packet : Packet) : Type 0 where
  pub next : Arrival
  pub later : List Arrival
  pub is : next.packet ≡ packet
  pub whole : batch ≡ map arrival_of hs ++ next ∷ later

pub arrivals_before : (batch : List Arrival) (cs : List Collected) (packet : Packet) (left : List Packet) → packets_got cs ++ packet ∷ left ≡ map packet_of batch → Before batch (answered batch cs) packet
arrivals_before [] [] packet left e = absurd cc
arrivals_before [] (c ∷ cs) packet left e = absurd (no_tail c.packet (packets_got cs) (packet ∷ left) e)
arrivals_before (a ∷ batch) [] packet left e = record { next = a; later = batch; is = sym (first_is packet a.packet left (map packet_of batch) e); whole = refl }
arrivals_before (a ∷ batch) (c ∷ cs) packet left e =
    let more = arrivals_before batch cs packet left (rest_is c.packet a.packet (packets_got cs ++ packet ∷ left) (map packet_of batch) e) in
    record { next = more.next; later = more.later; is = more.is; whole = ap (λ (t : List Arrival). a ∷ t) more.whole }

-- the first of some, with a rest
pub record Front (batch : List Arrival) (hs : List Handled) : Type 0 where
  pub later : List Arrival
  pub whole : batch ≡ map arrival_of hs ++ later

pub arrivals_front : (batch : List Arrival) (cs : List Collected) (left : List Packet) → packets_got cs ++ left ≡ map packet_of batch → Front batch (answered batch cs)
arrivals_front [] cs left e = record { later = []; whole = refl }
arrivals_front (a ∷ batch) [] left e = record { later = a ∷ batch; whole = refl }
arrivals_front (a ∷ batch) (c ∷ cs) left e =
    let more = arrivals_front batch cs left (rest_is c.packet a.packet (packets_got cs ++ left) (map packet_of batch) e) in
    record { later = more.later; whole = ap (λ (t : List Arrival). a ∷ t) more.whole }
