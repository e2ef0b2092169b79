-- what was copied stands for the front
use Rattle.std.proofs.Common.{◌≡◌, map, take}
use Rattle.nf_base.specs.View.{guard_of}
use Rattle.nf_base.proofs.expr.copied_guards.Given as goal

abbrev pub invariant-loop-one : goal.invariant-loop-one
invariant-loop-one l = map guard_of l.all ≡ map guard_of (take l.one-index l.guards)
