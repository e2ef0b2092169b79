-- What a worker without a thread stands for.
use Rattle.std.specs.Prelude.{◌≡◌, ◌≤◌, ◌<◌, List, ◌++◌, length, drop, Option, Some, All}
use Rattle.nf_base.specs.declared.func.Func.{Func}
use Rattle.nf_base.specs.declared.packet.Packet.{Packet}
use Rattle.nf_base.specs.declared.share.Share.{Share}
use Rattle.nf_base.specs.declared.state.State.{State}
use Rattle.nf_base.specs.Functions.{function_of}
use Rattle.nf_base.specs.Step.{opening}
use Rattle.nf_base.specs.Text.{Function}
use Rattle.shard_machine.specs.declared.event.Answer.{Answer}
use Rattle.ring_line.specs.declared.halt.Halt.{Halt}
use Rattle.ring_line.specs.declared.inline_worker.InlineWorker.{InlineWorker}
use Rattle.ring_line.specs.Packs.{IsAnswerAt, answers_of}
use Rattle.ring_line.specs.Handled.{CanServe, CameTo}

-- It stands for these packets, which were sent, and for these answers, which were collected: of the
-- packets some were worked, and the others wait; behind the answers come those of the packets that
-- were worked last which weren't collected.
pub record InlineWorkerStands {G : Type 0} (inline_worker : InlineWorker G) (func : Func)
    (share : Share)
    (packets : List Packet) (answers : List Answer) : Type 0 where
  pub func_is : inline_worker.queue_handler.func ≡ func
  pub share_is : inline_worker.queue_handler.tables.share ≡ share
  pub served : All (CanServe func) packets
  pub worked : List Packet
  pub packets_are : packets ≡ worked ++ inline_worker.filling.packets
  pub came :
      CameTo (function_of func) share (opening (function_of func)) worked
      (answers ++ drop inline_worker.at (answers_of inline_worker.current))
      inline_worker.queue_handler.halt inline_worker.queue_handler.tables.state
  pub last : inline_worker.current.halt ≡ inline_worker.queue_handler.halt

-- An answer of the packets that were worked last isn't collected. What isn't worked yet is in flight
-- too.
pub record InlineWorkerHasAnswer {G : Type 0} (inline_worker : InlineWorker G) : Type 0 where
  pub left : inline_worker.at < length inline_worker.current.answers
  pub in_flight : length inline_worker.filling.packets < inline_worker.in_flight

-- and this is the first of them
abbrev pub InlineWorkerFirstAnswer : {G : Type 0} → InlineWorker G → Answer → Type 0
InlineWorkerFirstAnswer inline_worker answer =
    IsAnswerAt inline_worker.current inline_worker.at answer

-- it has come to its share's end
abbrev pub InlineWorkerHalted : {G : Type 0} → InlineWorker G → Halt → Type 0
InlineWorkerHalted inline_worker halt =
    (length inline_worker.current.answers ≤ inline_worker.at) ×
    (inline_worker.current.halt ≡ Some halt)

-- some packets, with answers behind these, come to a state
pub record CameOn (f : Function) (share : Share) (first : State) (packets : List Packet)
    (told : List Answer) (state : State) : Type 0 where
  pub more : List Answer
  pub halt : Option Halt
  pub came : CameTo f share first packets (told ++ more) halt state
