use Rattle.std.proofs.Common.{◌≡◌}
use Rattle.nf_tree.specs.declared.block.Block.{size-Block}
use Rattle.nf_tree.specs.View.{block_of}
use Rattle.nf_syntax.specs.Statements.{turned}
use Rattle.nf_syntax.proofs.block.turned.Given as goal

abbrev pub invariant-statements : goal.invariant-statements
invariant-statements l = turned (block_of l.left.value) (block_of l.done.value) ≡ turned (block_of l.fn.before.value) (block_of l.fn.block.value)

abbrev pub decreases-statements : goal.decreases-statements
decreases-statements l = size-Block l.left.value
