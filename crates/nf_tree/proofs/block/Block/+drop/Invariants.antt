use Rattle.std.proofs.Common.{◌≤◌}
use Rattle.nf_tree.specs.declared.block.Block.{size-Block}
use Rattle.nf_tree.proofs.block.Block.+drop.Given as goal

-- what is left of the block is no larger than the whole
abbrev pub invariant-loop-self : goal.invariant-loop-self
invariant-loop-self l = size-Block l.self ≤ size-Block l.fn.self
