-- none so far is it
use Rattle.std.proofs.Common.{◌≡◌, map, drop}
use Rattle.nf_tree.specs.View.{handler_of}
use Rattle.nf_types.specs.TextFaults.{is_handled}
use Rattle.call_base.proofs.function.handler_place.Given as goal

abbrev pub invariant-loop-one : goal.invariant-loop-one
invariant-loop-one l = is_handled l.door.port l.door.family (map handler_of (drop l.one-index l.handlers)) ≡ is_handled l.door.port l.door.family (map handler_of l.handlers)
