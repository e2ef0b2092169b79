-- what is there, and what is still to come, are the whole
use Rattle.std.proofs.Common.{◌≡◌, ◌++◌, drop}
use Rattle.run_history.specs.StateText.{chains_text}
use Rattle.run_history.proofs.state_text.push_chains.Given as goal

abbrev pub invariant-loop-k : goal.invariant-loop-k
invariant-loop-k l = l.out.items ++ chains_text (drop l.k l.decls) (drop l.k l.chains) ≡ l.initial.out.items ++ chains_text l.decls l.chains
