-- what is left in front of the line that was come to is the whole
use Rattle.std.proofs.Common.{◌≡◌, ◌≤◌, ◌+◌, ◌*◌, map, vec_len}
use Rattle.std.specs.List.{All}
use Rattle.nf_base.specs.Text.{Block}
use Rattle.nf_base.specs.declared.block.Block.{size-Block}
use Rattle.nf_base.specs.View.{block_of}
use Rattle.nf_base.specs.Laid.{laid, block_seen}
use Rattle.path_walk.specs.Seen.{lines_seen}
use Rattle.path_walk.specs.Trees.{unfolded}
use Rattle.path_walk.specs.Lines.{tree_at}
use Rattle.path_walk.specs.Layout.{IsLaidOut}
use Rattle.path_walk.proofs.laying.+laying.Given as goal

abbrev pub decreases-statement_lines : goal.decreases-statement_lines
decreases-statement_lines l = 3 * size-Block l.block.now

abbrev pub decreases-block_lines : goal.decreases-block_lines
decreases-block_lines l = 3 * size-Block l.block.now + 1

abbrev pub invariant-block_lines-loop-last : goal.invariant-block_lines-loop-last
invariant-block_lines-loop-last l = record {
  rest : Block;
  whole : laid (map block_seen l.left.items) rest ≡ block_of l.block;
  laid_out : IsLaidOut (lines_seen l.fn.lines.items) (lines_seen l.lines.items) l.at (unfolded rest (tree_at (lines_seen l.fn.lines.items) l.fn.exit));
  smaller : All (λ c. size-Block c.now ≤ size-Block l.block) l.left.items;
}

abbrev pub decreases-block_lines-loop-last : goal.decreases-block_lines-loop-last
decreases-block_lines-loop-last l = vec_len l.left
