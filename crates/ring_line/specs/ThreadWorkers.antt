-- What a worker stands for.
use Rattle.std.specs.Prelude.{◌≡◌, ◌≤◌, ◌<◌, List, [], ◌∷◌, ◌++◌, length, map, drop, Some, None, All}
use Rattle.rtrb.specs.Ring as ring
use Rattle.nf_base.specs.declared.func.Func.{Func}
use Rattle.nf_base.specs.declared.packet.Packet.{Packet}
use Rattle.nf_base.specs.declared.share.Share.{Share}
use Rattle.nf_base.specs.Functions.{function_of}
use Rattle.vig_tables.specs.TablesState.{opened_tables}
use Rattle.shard_machine.specs.declared.event.Answer.{Answer}
use Rattle.ring_line.specs.declared.halt.Halt.{Halt}
use Rattle.ring_line.specs.declared.thread_worker.ThreadWorker.{ThreadWorker}
use Rattle.ring_line.specs.Packs.{Packed, IsAnswerAt, packets_in, answers_in, answers_of}
use Rattle.ring_line.specs.Handled.{CanServe}
use Rattle.ring_line.specs.QueueHandlers.{HandlerState}
use Rattle.ring_line.specs.WorkerLoops.{Given, as_work, given_by}

-- a worker was given tables of a share of a function that have handled nothing
pub record AreOpened (given : Given) (func : Func) (share : Share) : Type 0 where
  pub func_is : given.func ≡ func
  pub tables_are : given.tables ≡ opened_tables (function_of func) share

-- a pack is the last of those that came back; where none did, its share hasn't ended
abbrev pub IsLast : List Packed → Packed → Type 0
IsLast [] pack = pack.halt ≡ None
IsLast (first ∷ []) pack = first ≡ pack
IsLast (first ∷ second ∷ packs) pack = IsLast (second ∷ packs) pack

-- A worker stands for these packets, which were sent to a worker with opened tables, and for these
-- answers, which were collected: the packets stand in the packs that were pushed and in the one
-- that is being filled, and behind the answers come those of the last pack that weren't collected.
pub record StandsFor (thread_worker : ThreadWorker) (func : Func) (share : Share)
    (packets : List Packet)
    (answers : List Answer) : Type 0 where
  pub opened : AreOpened (given_by thread_worker.child.promise) func share
  pub served : All (CanServe func) packets
  pub packs : List Packed
  pub pushed : ring.sent thread_worker.to ≡ map as_work packs
  pub packets_are : packets ≡ packets_in packs ++ thread_worker.filling.packets
  pub answers_are :
      answers_in (ring.received thread_worker.back) ≡ answers ++ drop thread_worker.at
      (answers_of thread_worker.current)
  pub last : IsLast (ring.received thread_worker.back) thread_worker.current

-- An answer of the last pack isn't collected. What is not pushed yet is in flight too, and isn't
-- answered.
pub record HasAnswer (thread_worker : ThreadWorker) : Type 0 where
  pub left : thread_worker.at < length thread_worker.current.answers
  pub in_flight : length thread_worker.filling.packets < thread_worker.in_flight

-- and this is the first of them
abbrev pub FirstAnswer : ThreadWorker → Answer → Type 0
FirstAnswer thread_worker answer = IsAnswerAt thread_worker.current thread_worker.at answer

-- the worker has come to the share's end
abbrev pub HasHalted : ThreadWorker → Halt → Type 0
HasHalted thread_worker halt = (length thread_worker.current.answers ≤ thread_worker.at) ×
    (thread_worker.current.halt ≡ Some halt)

-- a worker in a thread that was given a queue handler, to which nothing was sent
abbrev pub StartsWith : ThreadWorker → HandlerState → Type 0
StartsWith thread_worker queue_handler =
    (share : Share) → queue_handler.tables ≡ opened_tables (function_of queue_handler.func) share →
    StandsFor thread_worker queue_handler.func share [] []
