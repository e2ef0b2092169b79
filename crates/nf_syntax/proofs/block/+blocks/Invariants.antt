use Rattle.std.proofs.Common.{◌≡◌, ◌+◌, ◌*◌, ◌≤◌, suc, length}
use Rattle.nf_tree.specs.Tree.{Block}
use Rattle.nf_tree.specs.Depth.{depth}
use Rattle.nf_tree.specs.View.{block_of}
use Rattle.nf_syntax.specs.Machine.{Place, BodyAt, run}
use Rattle.nf_syntax.specs.Statements.{turned}
use Rattle.nf_syntax.proofs.block.+blocks.Given as goal

abbrev pub decreases-ask : goal.decreases-ask
decreases-ask l = 4 * l.room + 2

abbrev pub decreases-make : goal.decreases-make
decreases-make l = 4 * l.room + 2

abbrev pub decreases-optional : goal.decreases-optional
decreases-optional l = 4 * l.room + 1

abbrev pub decreases-block : goal.decreases-block
decreases-block l = 4 * l.room

abbrev pub decreases-body : goal.decreases-body
decreases-body l = 4 * l.room + 3

abbrev pub invariant-body-statements : goal.invariant-body-statements
invariant-body-statements l = record {
  shorter : length l.rest ≤ length l.fn.tokens;
  so_far : (k : Block → Place) → run (BodyAt l.room k) l.fn.tokens ≡ run (BodyAt l.room (λ next. k (turned (block_of l.before.value) next))) l.rest;
  shallow : depth (block_of l.before.value) ≤ suc l.room;
}

abbrev pub decreases-body-statements : goal.decreases-body-statements
decreases-body-statements l = length l.rest
