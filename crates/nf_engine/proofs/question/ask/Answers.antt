use Rattle.std.proofs.Common.{◌≡◌, ap, map, []}
use Rattle.std.specs.Option.{option_map}
use Rattle.nf_base.specs.Context.{given, value}
use Rattle.nf_base.specs.Operations.{answer, bound, key_found, index_found}
use Rattle.nf_base.specs.View.{question_of, given_of, guard_of, expression_of}
use Rattle.nf_engine.specs.View.{context_of, input_of}
use Rattle.nf_engine.proofs.Answering.{answers_as}
use Rattle.nf_engine.proofs.question.ask.Goals as goal

pub returns-in-Get-clause-answers : goal.returns-in-Get-clause-answers
returns-in-Get-clause-answers g c =
    let p = input_of c.args.p.now in
    let t = c.args.tables.now in
    let d = c.args.context.now in
    let q = c.in-Get in
    let hit : c.look_up-hit.result ≡ key_found p (context_of t [] d) q.chain q.map (map (given p (context_of t [] d)) (map given_of q.key)) = rw c.as_slice.ensures at c.look_up-hit.ensures in
    answers_as c.bind_found.result t d c.bind_found.new.context (λ e. option_map (bound q.var q.chain e) c.look_up-hit.result) (λ e. answer p e (question_of c.args.question.now))
    (λ left. rw c.in-Get.is (ap (option_map (bound q.var q.chain (context_of t left d))) hit))
    (c.bind_found.ensures.bound t)

pub returns-in-Find-clause-answers : goal.returns-in-Find-clause-answers
returns-in-Find-clause-answers g c =
    let p = input_of c.args.p.now in
    let t = c.args.tables.now in
    let d = c.args.context.now in
    let q = c.in-Find in
    let hit : c.search-hit.result ≡ index_found p (context_of t [] d) q.chain (value p (context_of t [] d) (expression_of q.at)) (map guard_of q.guards) = rw (c.value-i.ensures, c.as_slice-in-Find.ensures) at c.search-hit.ensures in
    answers_as c.bind_found-in-Find.result t d c.bind_found-in-Find.new.context (λ e. option_map (bound q.var q.chain e) c.search-hit.result) (λ e. answer p e (question_of c.args.question.now))
    (λ left. rw c.in-Find.is (ap (option_map (bound q.var q.chain (context_of t left d))) hit))
    (c.bind_found-in-Find.ensures.bound t)
