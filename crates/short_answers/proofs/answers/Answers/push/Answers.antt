use Rattle.std.proofs.Common.{◌∷◌, ◌++◌, [], List, map, ap, ◌∙◌}
use Rattle.nf_base.specs.declared.done.Done.{Done}
use Rattle.short_answers.specs.Answers.{answer_in}
use Rattle.short_answers.specs.Lists.{AnswerList}
use Rattle.short_answers.proofs.Keeping.{answers_pushed}
use Rattle.short_answers.proofs.answers.Answers.push.Goals as goal

pub returns-clause-answers : goal.returns-clause-answers
returns-clause-answers c =
    let old = c.self.inside.whole.items in
    let kept = c.self.inside.kept.items in
    let new = c.keep-answer.new.whole.items in
    ap (map (answer_in new)) c.push_reserved.ensures.items
    ∙ answers_pushed old new kept c.keep-answer.result c.keep-answer.ensures.begins c.self.invariant.0
    ∙ ap (λ (d : Done). map (answer_in old) kept ++ d ∷ []) c.keep-answer.ensures.is
    ∙ ap (λ (l : AnswerList). l.answers ++ record { action = c.args.action; edits = c.args.edits.now; picks = c.args.picks.now } ∷ []) c.self.view_is
