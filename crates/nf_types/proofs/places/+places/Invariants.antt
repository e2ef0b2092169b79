-- what was counted and what is left are the whole
use Rattle.std.proofs.Common.{◌≡◌, ◌+◌, ◌*◌, ◌≤◌, max}
use Rattle.nf_tree.specs.declared.block.Block.{size-Block}
use Rattle.nf_tree.specs.View.{block_of}
use Rattle.nf_types.specs.Places.{places}
use Rattle.nf_types.proofs.places.+places.Given as goal

abbrev pub decreases-two_left : goal.decreases-two_left
decreases-two_left l = 2 * max (size-Block l.first.now) (size-Block l.second.now) + 1

abbrev pub decreases-places_left : goal.decreases-places_left
decreases-places_left l = 2 * size-Block l.block.now

abbrev pub invariant-places_left-loop-rest : goal.invariant-places_left-loop-rest
invariant-places_left-loop-rest l = record {
  smaller : size-Block l.rest ≤ size-Block l.block;
  counted : l.left + places (block_of l.block) ≡ l.room + places (block_of l.rest);
}
