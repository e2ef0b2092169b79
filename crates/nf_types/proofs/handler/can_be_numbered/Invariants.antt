-- what was counted and what is left are the whole
use Rattle.std.proofs.Common.{◌≡◌, ◌+◌, map, drop}
use Rattle.nf_tree.specs.View.{handler_of}
use Rattle.nf_types.specs.Function.{all_places}
use Rattle.nf_types.proofs.handler.can_be_numbered.Given as goal

abbrev pub invariant-loop-one : goal.invariant-loop-one
invariant-loop-one l = l.left + all_places (map handler_of l.handlers) ≡ 4294967295 + all_places (map handler_of (drop l.one-index l.handlers))
