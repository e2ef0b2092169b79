-- what was made stands in front of what comes of the rest
use Rattle.std.proofs.Common.{◌≡◌, ◌++◌, drop, map}
use Rattle.nf_base.specs.View as checked
use Rattle.nf_tree.specs.View as syntax
use Rattle.nf_types.specs.Statements.{value_for}
use Rattle.nf_types.specs.View.{variables_of}
use Rattle.nf_types.proofs.creation.values.Given as goal

abbrev pub invariant-loop-label : goal.invariant-loop-label
invariant-loop-label l =
    map checked.given_of l.all ++ map (value_for l.place l.objects (variables_of l.scope) (map syntax.given_of l.given)) (drop l.label-index l.labels)
    ≡ map (value_for l.place l.objects (variables_of l.scope) (map syntax.given_of l.given)) l.labels
