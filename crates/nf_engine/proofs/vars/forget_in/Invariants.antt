-- the first of them are gone through
use Rattle.std.proofs.Common.{◌≡◌, ◌++◌, drop, map, take}
use Rattle.nf_base.specs.Operations.{unless_at}
use Rattle.nf_engine.proofs.vars.forget_in.Given as goal

abbrev pub invariant-loop-k : goal.invariant-loop-k
invariant-loop-k l = l.entries ≡ map (unless_at l.gone) (take l.k l.fn.entries) ++ drop l.k l.fn.entries
