-- There is one answer that lies ready.
use Rattle.std.proofs.Common.{◌≡◌, ℕ, List, [], ◌∷◌, Some, slice_get, ap, ap₂, sym, ◌∙◌, subst}
use Rattle.std.proofs.lemmas.Option.{same_Some}
use Rattle.nf_base.specs.declared.packet.Packet.{Packet}
use Rattle.nf_base.specs.declared.done.Done.{Done}
use Rattle.shard_machine.specs.declared.event.Answer.{Answer}
use Rattle.shard_core.specs.declared.collected.Collected.{Collected}
use Rattle.shard_core.specs.Sharded.{answer_of}
use Rattle.ring_line.specs.declared.queue_worker.QueueWorker.{QueueWorker}
use Rattle.ring_line.specs.declared.queue_worker.QueueWorker.TheVariants as queue_worker
use Rattle.ring_line.specs.declared.line.Line.{Line}
use Rattle.ring_line.specs.Packs.{Packed, IsAnswerAt}
use Rattle.ring_line.specs.QueueWorkers.{QueueWorkerFirstAnswer}
use Rattle.ring_line.specs.Lines.{ComesFirst, LineFirstAnswer}

answer_at : (pack : Packed) (i : ℕ) (a b : Answer) → IsAnswerAt pack i a → IsAnswerAt pack i b → a ≡ b
answer_at pack i a b h k = ap₂ (λ (p : Packet) (d : Done). record { packet = p; done = d }) (same_Some a.packet b.packet (sym h.packet ∙ k.packet)) (same_Some a.done b.done (sym h.done ∙ k.done))

queue_worker_answer : {G : Type 0} (at : QueueWorker G) (a b : Answer) → QueueWorkerFirstAnswer at a → QueueWorkerFirstAnswer at b → a ≡ b
queue_worker_answer (queue_worker.Threaded thread_worker) a b h k = answer_at thread_worker.current thread_worker.at a b h k
queue_worker_answer (queue_worker.Inline inline_worker) a b h k = answer_at inline_worker.current inline_worker.at a b h k

pub one_first : (q p : ℕ) (order : List ℕ) → ComesFirst q order → ComesFirst p order → q ≡ p
one_first q p [] h k = absurd h
one_first q p (o ∷ order) h k = sym h ∙ k

pub one_queue_worker : {G : Type 0} (queue_workers : List (QueueWorker G)) (q p : ℕ) (a b : QueueWorker G) → q ≡ p → slice_get queue_workers q ≡ Some a → slice_get queue_workers p ≡ Some b → a ≡ b
one_queue_worker queue_workers q p a b same h k = same_Some a b (sym h ∙ ap (slice_get queue_workers) same ∙ k)

pub one_answer : {G : Type 0} (line : Line G) (c d : Collected) → LineFirstAnswer line c → LineFirstAnswer line d → c ≡ d
one_answer line c d h k =
    let queue : c.queue ≡ d.queue = one_first c.queue d.queue line.order.items h.first k.first in
    let here : h.queue_worker ≡ k.queue_worker = one_queue_worker line.queue_workers c.queue d.queue h.queue_worker k.queue_worker queue h.there k.there in
    let answer : answer_of c ≡ answer_of d = queue_worker_answer k.queue_worker (answer_of c) (answer_of d) (subst (λ p. QueueWorkerFirstAnswer p (answer_of c)) here h.answer) k.answer in
    ap₂ (λ (q : ℕ) (a : Answer). record { packet = a.packet; queue = q; done = a.done }) queue answer
