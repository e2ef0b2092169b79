-- what is left decides
use Rattle.std.proofs.Common.{◌≡◌, ◌+◌, drop, map}
use Rattle.nf_tree.specs.View as syntax
use Rattle.nf_types.specs.Statements.{value_for, given_cells}
use Rattle.nf_types.specs.View.{variables_of}
use Rattle.nf_types.proofs.creation.value_for.Given as goal

abbrev pub invariant-loop-one : goal.invariant-loop-one
invariant-loop-one l = record {
  places : l.at + given_cells (map syntax.given_of (drop l.one-index l.given)) ≡ l.place + given_cells (map syntax.given_of l.given);
  same : value_for l.at l.objects (variables_of l.scope) (map syntax.given_of (drop l.one-index l.given)) l.label
      ≡ value_for l.place l.objects (variables_of l.scope) (map syntax.given_of l.given) l.label;
}
