-- nothing was wrong so far
use Rattle.std.proofs.Common.{◌≡◌, drop, map}
use Rattle.nf_tree.specs.View as syntax
use Rattle.nf_types.specs.Expressions.{each_value_faults}
use Rattle.nf_types.specs.Faults.{first}
use Rattle.nf_types.specs.View.{variables_of}
use Rattle.nf_types.proofs.value_rules.values.Given as goal

abbrev pub invariant-loop-one : goal.invariant-loop-one
invariant-loop-one l =
    first (each_value_faults l.family l.objects (variables_of l.scope) (map syntax.expression_of (drop l.one-index l.values)))
    ≡ first (each_value_faults l.family l.objects (variables_of l.scope) (map syntax.expression_of l.values))
