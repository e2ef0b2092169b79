use Rattle.std.proofs.Common.{◌≡◌, ◌+◌, length}
use Rattle.nf_types.specs.View.{variables_of}
use Rattle.nf_types.proofs.variables.count.Given as goal

abbrev pub invariant-loop-rest : goal.invariant-loop-rest
invariant-loop-rest l = l.all + length (variables_of l.rest) ≡ length (variables_of l.variables)
