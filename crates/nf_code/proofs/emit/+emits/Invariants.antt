-- what is left, with what was put behind it, is the whole
use Rattle.std.proofs.Common.{◌≡◌, ◌≤◌, ◌<◌, ◌+◌, ◌*◌, length, map, vec_len}
use Rattle.std.specs.List.{All}
use Rattle.nf_base.specs.declared.block.Block.{size-Block}
use Rattle.nf_base.specs.View.{block_of}
use Rattle.nf_base.specs.Laid.{block_seen}
use Rattle.nf_code.specs.Code.{Keeps, block_at}
use Rattle.nf_code.specs.Followed.{followed, linked}
use Rattle.nf_code.proofs.emit.+emits.Given as goal

abbrev pub decreases-emit_first : goal.decreases-emit_first
decreases-emit_first l = 2 * size-Block l.block.now

abbrev pub decreases-emit : goal.decreases-emit
decreases-emit l = 2 * size-Block l.block.now + 1

abbrev pub invariant-emit-loop-last : goal.invariant-emit-loop-last
invariant-emit-loop-last l = record {
  keeps : Keeps l.fn.code l.code;
  within : l.at < length l.code;
  whole : linked (map block_seen l.left.items) (block_at l.code l.at) ≡ followed (block_of l.block) (block_at l.fn.code l.behind);
  smaller : All (λ c. size-Block c.now ≤ size-Block l.block) l.left.items;
}

abbrev pub decreases-emit-loop-last : goal.decreases-emit-loop-last
decreases-emit-loop-last l = vec_len l.left
