-- what is left decides
use Rattle.std.proofs.Common.{◌≡◌}
use Rattle.nf_types.specs.Names.{is_among}
use Rattle.nf_types.specs.Variables.{names_of}
use Rattle.nf_types.specs.View.{variables_of}
use Rattle.nf_types.proofs.variables.is_in_scope.Given as goal

abbrev pub invariant-loop-rest : goal.invariant-loop-rest
invariant-loop-rest l = is_among l.name (names_of (variables_of l.rest)) ≡ is_among l.name (names_of (variables_of l.variables))
