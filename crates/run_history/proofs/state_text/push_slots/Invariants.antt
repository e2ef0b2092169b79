-- what is there, and what is still to come, are the whole
use Rattle.std.proofs.Common.{◌≡◌, ◌++◌, drop}
use Rattle.run_history.specs.StateText.{slots_text}
use Rattle.run_history.proofs.state_text.push_slots.Given as goal

abbrev pub invariant-loop-index : goal.invariant-loop-index
invariant-loop-index l = l.out.items ++ slots_text l.decl l.index (drop l.index l.slots) ≡ l.initial.out.items ++ slots_text l.decl 0 l.slots
