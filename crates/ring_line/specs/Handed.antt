-- What a worker's answers come to, one by one and at its end.
use Rattle.std.specs.Prelude.{◌≡◌, List, [], ◌++◌, Option, Some}
use Rattle.nf_base.specs.declared.packet.Packet.{Packet}
use Rattle.nf_base.specs.declared.share.Share.{Share}
use Rattle.nf_base.specs.Step.{opening}
use Rattle.nf_base.specs.Text.{Function}
use Rattle.vig_tables.specs.TablesState.{TablesState}
use Rattle.shard_machine.specs.declared.event.Answer.{Answer}
use Rattle.ring_line.specs.declared.halt.Halt.{Halt}
use Rattle.ring_line.specs.declared.thread_worker.Next.{Next}
use Rattle.ring_line.specs.declared.thread_worker.Next.TheVariants.{Ready, Halted, Nothing}
use Rattle.ring_line.specs.Handled.{CameTo}

-- What comes next, by whether an answer lies ready and where the share has ended.
abbrev pub IsNext : Next → Type 0 → (Halt → Type 0) → Type 0
IsNext Ready HasAnswer Ended = HasAnswer
IsNext (Halted halt) HasAnswer Ended = Ended halt
IsNext Nothing HasAnswer Ended = (HasAnswer → ⊥) × ((halt : Halt) → Ended halt → ⊥)

-- What a worker comes to at its end: it handled the packets that were sent, in order, all of them or
-- those before its share's end, and what was collected are the first of its answers; all of them,
-- where that end had been told.
pub record Finishes (Ended : Halt → Type 0) (f : Function) (share : Share) (packets : List Packet)
    (answers : List Answer) (tables : TablesState) : Type 0 where
  pub decls : tables.decls ≡ f.chains
  pub share_is : tables.share ≡ share
  pub more : List Answer
  pub halt : Option Halt
  pub came : CameTo f share (opening f) packets (answers ++ more) halt tables.state
  pub halted : (at : Halt) → Ended at → (halt ≡ Some at) × (more ≡ [])
