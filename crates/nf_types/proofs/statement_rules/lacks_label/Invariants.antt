-- what is left decides
use Rattle.std.proofs.Common.{◌≡◌, drop, map}
use Rattle.nf_tree.specs.View as syntax
use Rattle.nf_types.specs.StatementFaults.{lacks_label}
use Rattle.nf_types.proofs.statement_rules.lacks_label.Given as goal

abbrev pub invariant-loop-label : goal.invariant-loop-label
invariant-loop-label l = lacks_label (map syntax.given_of l.given) (drop l.label-index l.labels) ≡ lacks_label (map syntax.given_of l.given) l.labels
