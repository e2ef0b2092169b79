use Rattle.std.proofs.Common.{◌∙◌, ◌++◌, Bool, List, map, ap, subst}
use Rattle.nf_base.specs.Statements.{Statement}
use Rattle.nf_base.specs.View.{block_of}
use Rattle.path_walk.specs.Alive.{alive}
use Rattle.path_walk.specs.Numbering.{texts_seen}
use Rattle.path_walk.specs.Order.{head_seen}
use Rattle.path_walk.specs.Trees.{Leaf, unfolded}
use Rattle.path_walk.specs.Ahead.{all_known, all_ahead, AreIn}
use Rattle.path_walk.proofs.AskedTexts.{all_feasible}
use Rattle.path_walk.proofs.reaching.reached.Goals as goal

pub returns : goal.returns
returns c =
    let block = block_of c.args.block.now in
    let texts = texts_seen c.in_ok-texts.texts in
    let live = all_known c.in_ok-live.live.items in
    let has = subst (λ (ss : List Statement). AreIn texts ss) (ap (map head_seen) c.as_slice.ensures.value ∙ c.in_ok-statements.ensures) c.in_ok-texts.ensures.all in
    c.in_ok-mark_block.ensures.marks Leaf has
    ∙ ap (λ (r : List Bool). r ++ alive block (all_ahead texts (unfolded block Leaf) live)) c.new-marks.ensures.items
    ∙ ap (alive block) (ap (all_ahead texts (unfolded block Leaf)) c.in_ok-live.ensures ∙ all_feasible texts block c.in_ok-texts.ensures.finds.apart has)
