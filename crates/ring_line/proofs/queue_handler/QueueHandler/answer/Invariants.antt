use Rattle.std.proofs.Common.{◌≡◌, List, ◌++◌, length, None, All, ◌-◌}
use Rattle.nf_base.specs.declared.state.State.{State}
use Rattle.nf_base.specs.Functions.{function_of}
use Rattle.nf_engine.specs.View.{fixed_of}
use Rattle.shard_machine.specs.declared.event.Answer.{Answer}
use Rattle.ring_line.specs.Packs.{answers_of}
use Rattle.ring_line.specs.Handled.{CanServe, Handles}
use Rattle.ring_line.proofs.queue_handler.QueueHandler.answer.Given as goal

-- the packets so far are handled, behind whatever was before
abbrev pub invariant-loop-self : goal.invariant-loop-self
invariant-loop-self g l = record {
  runner : l.runner.ready ≡ l.fn.runner.ready;
  packets : l.pack.packets ≡ l.fn.pack.packets;
  none : l.pack.halt ≡ None;
  running : l.self.halt ≡ None;
  func : l.self.func ≡ l.fn.self.func;
  fixed : fixed_of l.self.tables ≡ fixed_of l.fn.self.tables;
  came : (first : State) (told : List Answer) → All (CanServe l.fn.self.func) l.fn.pack.packets → Handles (function_of l.fn.self.func) l.fn.self.tables.share first told l.fn.self.tables.state →
      Handles (function_of l.fn.self.func) l.fn.self.tables.share first (told ++ answers_of l.pack) l.self.tables.state;
}

abbrev pub decreases-loop-self : goal.decreases-loop-self
decreases-loop-self g l = length l.pack.packets - length l.pack.answers
