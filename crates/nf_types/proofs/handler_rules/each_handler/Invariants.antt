-- nothing was wrong so far
use Rattle.std.proofs.Common.{◌≡◌, [], map, take, drop}
use Rattle.nf_tree.specs.View as syntax
use Rattle.nf_types.specs.Faults.{first, each_behind}
use Rattle.nf_types.specs.TextFaults.{handler_faults}
use Rattle.nf_types.proofs.handler_rules.each_handler.Given as goal

abbrev pub invariant-loop-i : goal.invariant-loop-i
invariant-loop-i l =
    first (each_behind (handler_faults l.ports l.objects) (map syntax.handler_of (take l.i l.handlers)) (map syntax.handler_of (drop l.i l.handlers)))
    ≡ first (each_behind (handler_faults l.ports l.objects) [] (map syntax.handler_of l.handlers))
