-- what is marked, and what is left to be marked, are the whole
use Rattle.std.proofs.Common.{◌≡◌, ◌≤◌, ◌+◌, ◌*◌, ◌++◌}
use Rattle.nf_base.specs.declared.block.Block.{size-Block}
use Rattle.nf_base.specs.View.{block_of}
use Rattle.nf_base.specs.Laid.{rest_size}
use Rattle.nf_base.specs.Statements.{statements}
use Rattle.path_walk.specs.Tests.{TestText}
use Rattle.path_walk.specs.Trees.{Tree, unfolded}
use Rattle.path_walk.specs.Numbering.{texts_seen}
use Rattle.path_walk.specs.Alive.{rest_seen, past, alive, past_rest, alive_rest}
use Rattle.path_walk.specs.Alike.{HaveSame}
use Rattle.path_walk.specs.Ahead.{all_known, all_ahead, AreIn, rest_tree, rest_statements}
use Rattle.path_walk.proofs.reaching.+reaching.Given as goal

abbrev pub decreases-mark_statement : goal.decreases-mark_statement
decreases-mark_statement l = 3 * size-Block l.block.now

abbrev pub decreases-mark_one : goal.decreases-mark_one
decreases-mark_one l = 3 * size-Block l.block.now + 1

abbrev pub decreases-mark_block : goal.decreases-mark_block
decreases-mark_block l = 3 * size-Block l.block.now + 2

abbrev pub invariant-mark_block-loop-rest : goal.invariant-mark_block-loop-rest
invariant-mark_block-loop-rest l = record {
  marks : (exit : Tree TestText) → AreIn (texts_seen l.texts) (statements (block_of l.block)) →
      l.marks.items ++ alive_rest (rest_seen l.rest) (all_ahead (texts_seen l.texts) (rest_tree (rest_seen l.rest) exit) (all_known l.on.items))
      ≡ l.fn.marks.items ++ alive (block_of l.block) (all_ahead (texts_seen l.texts) (unfolded (block_of l.block) exit) (all_known l.fn.live.items));
  past : (exit : Tree TestText) → AreIn (texts_seen l.texts) (statements (block_of l.block)) →
      HaveSame (past_rest (rest_seen l.rest) (all_ahead (texts_seen l.texts) (rest_tree (rest_seen l.rest) exit) (all_known l.on.items)))
      (past (block_of l.block) (all_ahead (texts_seen l.texts) (unfolded (block_of l.block) exit) (all_known l.fn.live.items)));
  has : AreIn (texts_seen l.texts) (statements (block_of l.block)) → AreIn (texts_seen l.texts) (rest_statements (rest_seen l.rest));
  left : rest_size l.rest ≤ size-Block l.block + 1;
}

abbrev pub decreases-mark_block-loop-rest : goal.decreases-mark_block-loop-rest
decreases-mark_block-loop-rest l = rest_size l.rest
