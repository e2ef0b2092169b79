use Rattle.std.proofs.Common.{◌∙◌, ◌++◌, Bool, List, not, length, refl, ap, sym}
use Rattle.nf_base.specs.View.{question_of}
use Rattle.path_walk.specs.Numbering.{texts_seen}
use Rattle.path_walk.specs.Trees.{asking}
use Rattle.path_walk.specs.Ahead.{known_in, all_known, all_ahead}
use Rattle.path_walk.proofs.Splits.{any_some}
use Rattle.path_walk.proofs.GoneThrough.{any_ahead}
use Rattle.path_walk.proofs.InVain.{in_vain}
use Rattle.path_walk.proofs.reaching.mark_empty.Goals as goal

pub returns : goal.returns
returns c = λ next has.
    let texts = texts_seen c.args.texts.now in
    let tree = asking (question_of c.args.question.now) next next in
    let live = c.args.live.now in
    c.in_ok-push_three.ensures
    ∙ ap (λ (bs : List Bool). c.args.marks.now.items ++ bs)
    (in_vain (not c.is_empty-comes.result) c.in_ok-going.going.hits c.in_ok-going.going.misses (all_ahead texts tree (all_known live))
    (ap not c.is_empty-comes.ensures ∙ any_some known_in live (length live) refl ∙ sym (any_ahead texts tree (all_known live)))
    (c.in_ok-going.ensures.first next next has) (c.in_ok-going.ensures.second next next has))
