-- what was copied stands for the front
use Rattle.std.proofs.Common.{◌≡◌, map, take}
use Rattle.nf_base.specs.View.{given_of}
use Rattle.nf_base.proofs.expr.copied_given.Given as goal

abbrev pub invariant-loop-one : goal.invariant-loop-one
invariant-loop-one l = map given_of l.all ≡ map given_of (take l.one-index l.given)
