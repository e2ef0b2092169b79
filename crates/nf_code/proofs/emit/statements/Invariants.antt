-- what was gone along and what is left are the whole
use Rattle.std.proofs.Common.{◌≡◌, ◌≤◌, ◌+◌, map}
use Rattle.std.specs.List.{All}
use Rattle.nf_base.specs.declared.block.Block.{size-Block}
use Rattle.nf_base.specs.Text.{Block}
use Rattle.nf_base.specs.View.{block_of}
use Rattle.nf_base.specs.Laid.{rest_of, rest_size, block_seen}
use Rattle.nf_code.specs.Followed.{followed, linked}
use Rattle.nf_code.proofs.emit.statements.Given as goal

abbrev pub invariant-loop-rest : goal.invariant-loop-rest
invariant-loop-rest l = record {
  whole : (next : Block) → linked (map block_seen l.all.items) (followed (rest_of l.rest) next) ≡ followed (block_of l.block) next;
  left : rest_size l.rest ≤ size-Block l.block + 1;
  smaller : All (λ c. size-Block c.now ≤ size-Block l.block) l.all.items;
}

abbrev pub decreases-loop-rest : goal.decreases-loop-rest
decreases-loop-rest l = rest_size l.rest
