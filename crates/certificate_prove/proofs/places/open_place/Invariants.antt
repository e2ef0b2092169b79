use Rattle.certificate_prove.specs.Growing.{AllFixed}
use Rattle.certificate_prove.proofs.places.open_place.Given as goal

abbrev pub invariant-loop-place : goal.invariant-loop-place
invariant-loop-place l = AllFixed l.positions l.fixed l.place
