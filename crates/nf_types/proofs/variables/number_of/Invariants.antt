-- what is left decides
use Rattle.std.proofs.Common.{◌≡◌, ◌≤◌, length}
use Rattle.nf_types.specs.Variables.{variable_of}
use Rattle.nf_types.specs.View.{variables_of}
use Rattle.nf_types.proofs.variables.number_of.Given as goal

abbrev pub invariant-loop-rest : goal.invariant-loop-rest
invariant-loop-rest l = record {
  within : length (variables_of l.rest) ≤ length (variables_of l.variables);
  same : variable_of (variables_of l.rest) l.name ≡ variable_of (variables_of l.variables) l.name;
}
