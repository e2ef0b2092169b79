use Rattle.lock_mode.specs.Merging.{AreTurns}
use Rattle.lock_mode.proofs.merge.Merge.put_all.Given as goal

abbrev pub invariant-loop : goal.invariant-loop
invariant-loop g l = AreTurns g.J.Naming.function l.all l.seats l.self.turns.items l.self.taken.items l.self.entries
