-- what is left decides
use Rattle.std.proofs.Common.{◌≡◌, drop, map}
use Rattle.nf_tree.specs.View.{handler_of}
use Rattle.nf_types.specs.TextFaults.{is_handled}
use Rattle.nf_types.proofs.handler_rules.is_handled.Given as goal

abbrev pub invariant-loop-one : goal.invariant-loop-one
invariant-loop-one l = is_handled l.port l.family (map handler_of (drop l.one-index l.handlers)) ≡ is_handled l.port l.family (map handler_of l.handlers)
