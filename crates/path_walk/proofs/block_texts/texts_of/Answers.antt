use Rattle.std.proofs.Common.{◌≡◌, ◌+◌, ◌++◌, ◌∷◌, [], Bor, List, map, take, ap, sym, subst, ◌∙◌}
use Rattle.std.proofs.lemmas.List.{map-append, take_more}
use Rattle.nf_base.specs.Statements.{Statement}
use Rattle.nf_base.specs.declared.block.Block as block
use Rattle.path_walk.specs.Order.{head_seen}
use Rattle.path_walk.specs.Numbering.{texts_seen}
use Rattle.path_walk.specs.Ahead.{AreIn}
use Rattle.path_walk.proofs.AskedTexts.{added_more}
use Rattle.path_walk.proofs.block_texts.texts_of.Goals as goal

pub loop-one-preserved : goal.loop-one-preserved
loop-one-preserved c =
    let i = c.loop-one.one-index in
    let before = take i c.args.statements.now in
    let item : Bor block.Block = c.one-item.result in
    let old = texts_seen c.loop-one.texts in
    let new = texts_seen c.put_statement.new.texts in
    let more : take (i + 1) c.args.statements.now ≡ before ++ item ∷ [] = take_more c.args.statements.now i item c.loop-one-test.true ∙ ap (λ x. before ++ x ∷ []) (sym c.one-item.is) in
    let seen : map head_seen (take (i + 1) c.args.statements.now) ≡ map head_seen before ++ head_seen item ∷ [] = ap (map head_seen) more ∙ map-append head_seen before (item ∷ []) in
    record {
      finds = c.in_ok-put_statement.ensures.finds;
      all = subst (λ (ss : List Statement). AreIn new ss) (sym seen) (added_more old new (map head_seen before) (head_seen item) c.loop-one.invariant.all c.in_ok-put_statement.ensures.added);
    }
