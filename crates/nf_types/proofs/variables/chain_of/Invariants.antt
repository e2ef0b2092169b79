-- what is left decides
use Rattle.std.proofs.Common.{◌≡◌}
use Rattle.nf_types.specs.Variables.{variable_named}
use Rattle.nf_types.specs.View.{variables_of}
use Rattle.nf_types.proofs.variables.chain_of.Given as goal

abbrev pub invariant-loop-rest : goal.invariant-loop-rest
invariant-loop-rest l = variable_named (variables_of l.rest) l.name ≡ variable_named (variables_of l.variables) l.name
