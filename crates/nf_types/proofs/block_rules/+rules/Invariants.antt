-- what is wrong with what is left of a block is what is wrong with the whole
use Rattle.std.proofs.Common.{◌≡◌, ◌+◌, ◌*◌, ◌≤◌, max}
use Rattle.nf_tree.specs.declared.block.Block.{size-Block}
use Rattle.nf_tree.specs.View as syntax
use Rattle.nf_types.specs.BlockFaults.{block_faults}
use Rattle.nf_types.specs.Counts.{behind}
use Rattle.nf_types.specs.Faults.{first}
use Rattle.nf_types.specs.View.{variables_of}
use Rattle.nf_types.proofs.block_rules.+rules.Given as goal

abbrev pub decreases-ask : goal.decreases-ask
decreases-ask l = 2 * max (size-Block l.hit.now) (size-Block l.miss.now) + 1

abbrev pub decreases-make_in : goal.decreases-make_in
decreases-make_in l = 2 * max (size-Block l.made.now) (max (size-Block l.taken.now) (size-Block l.full.now)) + 1

abbrev pub decreases-block : goal.decreases-block
decreases-block l = 2 * size-Block l.block.now

abbrev pub invariant-block-loop-rest : goal.invariant-block-loop-rest
invariant-block-loop-rest l = record {
  smaller : size-Block l.rest ≤ size-Block l.block;
  room : behind l.left (syntax.block_of l.rest) ≡ behind l.fn.room (syntax.block_of l.block);
  so_far : first (block_faults l.family l.left l.objects (variables_of l.scope) (syntax.block_of l.rest))
      ≡ first (block_faults l.family l.fn.room l.objects (variables_of l.scope) (syntax.block_of l.block));
}
