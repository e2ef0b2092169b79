-- what is left decides
use Rattle.std.proofs.Common.{◌≡◌, ◌+◌, ◌<◌, ◌^◌, length, map}
use Rattle.nf_tree.specs.View.{handler_of}
use Rattle.nf_types.specs.Function.{all_places, block_at}
use Rattle.nf_types.specs.Small.{AreSmall}
use Rattle.nf_types.proofs.handler.tree_at.Given as goal

abbrev pub invariant-loop-rest : goal.invariant-loop-rest
invariant-loop-rest l = record {
  places : l.before + all_places (map handler_of l.rest) < 2 ^ 32;
  small : AreSmall (map handler_of l.rest);
  same : block_at l.port l.family l.before (map handler_of l.rest) ≡ block_at l.port l.family 0 (map handler_of l.handlers);
}

abbrev pub decreases-loop-rest : goal.decreases-loop-rest
decreases-loop-rest l = length l.rest
