-- what was made stands in front of what comes of the rest
use Rattle.std.proofs.Common.{◌≡◌, ◌+◌, ◌++◌, drop, map}
use Rattle.nf_base.specs.View as checked
use Rattle.nf_tree.specs.View as syntax
use Rattle.nf_types.specs.Statements.{key_of, key_cells}
use Rattle.nf_types.specs.View.{variables_of}
use Rattle.nf_types.proofs.question.key.Given as goal

abbrev pub invariant-loop-i : goal.invariant-loop-i
invariant-loop-i l = record {
  places : l.at + key_cells (map syntax.expression_of (drop l.i l.key)) ≡ l.place + key_cells (map syntax.expression_of l.key);
  so_far : map checked.given_of l.all ++ key_of l.at l.objects (variables_of l.scope) (drop l.i l.parts) (map syntax.expression_of (drop l.i l.key))
      ≡ key_of l.place l.objects (variables_of l.scope) l.parts (map syntax.expression_of l.key);
}
