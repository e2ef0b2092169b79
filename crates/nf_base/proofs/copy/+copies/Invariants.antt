-- what is left and the copy behind it are the whole
use Rattle.std.proofs.Common.{◌≡◌, ◌≤◌, ◌+◌, ◌*◌, map, vec_len}
use Rattle.std.specs.List.{All}
use Rattle.nf_base.specs.declared.block.Block.{size-Block}
use Rattle.nf_base.specs.View.{block_of}
use Rattle.nf_base.specs.Laid.{laid}
use Rattle.nf_base.specs.Laid.{block_seen}
use Rattle.nf_base.proofs.copy.+copies.Given as goal

abbrev pub decreases-boxed : goal.decreases-boxed
decreases-boxed l = 3 * size-Block l.block.now + 2

abbrev pub decreases-in_front : goal.decreases-in_front
decreases-in_front l = 3 * size-Block l.block.now

abbrev pub decreases-copied : goal.decreases-copied
decreases-copied l = 3 * size-Block l.block.now + 1

abbrev pub invariant-copied-loop-last : goal.invariant-copied-loop-last
invariant-copied-loop-last l = record {
  whole : laid (map block_seen l.left.items) (block_of l.copy) ≡ block_of l.block;
  smaller : All (λ c. size-Block c.now ≤ size-Block l.block) l.left.items;
}

abbrev pub decreases-copied-loop-last : goal.decreases-copied-loop-last
decreases-copied-loop-last l = vec_len l.left
