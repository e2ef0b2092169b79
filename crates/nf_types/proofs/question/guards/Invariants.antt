-- what was made stands in front of what comes of the rest
use Rattle.std.proofs.Common.{◌≡◌, ◌+◌, ◌++◌, drop, map}
use Rattle.nf_base.specs.View as checked
use Rattle.nf_tree.specs.View as syntax
use Rattle.nf_types.specs.Statements.{guards_in, given_cells}
use Rattle.nf_types.specs.View.{variables_of}
use Rattle.nf_types.proofs.question.guards.Given as goal

abbrev pub invariant-loop-one : goal.invariant-loop-one
invariant-loop-one l = record {
  places : l.at + given_cells (map syntax.given_of (drop l.one-index l.given)) ≡ l.place + given_cells (map syntax.given_of l.given);
  so_far : map checked.guard_of l.all ++ guards_in l.at l.objects (variables_of l.scope) l.labels (map syntax.given_of (drop l.one-index l.given))
      ≡ guards_in l.place l.objects (variables_of l.scope) l.labels (map syntax.given_of l.given);
}
