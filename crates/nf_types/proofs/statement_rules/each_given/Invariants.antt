-- nothing was wrong so far
use Rattle.std.proofs.Common.{◌≡◌, [], map, take, drop}
use Rattle.nf_tree.specs.View as syntax
use Rattle.nf_types.specs.Faults.{first, each_behind}
use Rattle.nf_types.specs.StatementFaults.{given_faults}
use Rattle.nf_types.specs.View.{variables_of}
use Rattle.nf_types.proofs.statement_rules.each_given.Given as goal

abbrev pub invariant-loop-i : goal.invariant-loop-i
invariant-loop-i l =
    first (each_behind (given_faults l.family l.objects (variables_of l.scope) l.chain) (map syntax.given_of (take l.i l.all)) (map syntax.given_of (drop l.i l.all)))
    ≡ first (each_behind (given_faults l.family l.objects (variables_of l.scope) l.chain) [] (map syntax.given_of l.all))
