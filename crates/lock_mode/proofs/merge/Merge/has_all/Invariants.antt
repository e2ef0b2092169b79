use Rattle.lock_mode.specs.Merging.{AreTaken}
use Rattle.lock_mode.proofs.merge.Merge.has_all.Given as goal

abbrev pub invariant-loop-at : goal.invariant-loop-at
invariant-loop-at g l = AreTaken l.seats l.self.taken.items l.at
