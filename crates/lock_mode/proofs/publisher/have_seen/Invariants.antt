use Rattle.lock_mode.specs.Merging.{HaveSeen}
use Rattle.lock_mode.proofs.publisher.have_seen.Given as goal

abbrev pub invariant-loop-at : goal.invariant-loop-at
invariant-loop-at g l = HaveSeen l.seats l.all l.at
