use Rattle.key_certificate.proofs.Nots.{AreNotsTo}
use Rattle.key_certificate.proofs.trees.push_each.Given as goal

abbrev pub invariant-loop-place : goal.invariant-loop-place
invariant-loop-place l = AreNotsTo l.ground.table l.positions l.ground.rows l.ground.spans l.vectors.counts.items l.vectors.wanted.items l.vectors.own.items l.place l.fixed l.initial.out.items l.out.items
