-- what is left decides
use Rattle.std.proofs.Common.{◌≡◌, drop, map}
use Rattle.nf_tree.specs.View as syntax
use Rattle.nf_types.specs.StatementFaults.{is_given}
use Rattle.nf_types.proofs.statement_rules.is_given.Given as goal

abbrev pub invariant-loop-one : goal.invariant-loop-one
invariant-loop-one l = is_given (map syntax.given_of (drop l.one-index l.given)) l.name ≡ is_given (map syntax.given_of l.given) l.name
