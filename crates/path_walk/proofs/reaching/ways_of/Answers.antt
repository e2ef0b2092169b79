use Rattle.std.proofs.Common.{◌≡◌, ◌∙◌, ap, sym}
use Rattle.std.proofs.lemmas.Result.{IfOk-weaker}
use Rattle.nf_base.specs.View.{expression_of, question_of}
use Rattle.path_walk.specs.Alive.{into_first, into_second, those}
use Rattle.path_walk.specs.Numbering.{texts_seen}
use Rattle.path_walk.specs.Trees.{Tree, Free, asking}
use Rattle.path_walk.specs.Tests.{TestText}
use Rattle.path_walk.specs.Ahead.{all_known, all_ahead, text_asked, IsIn}
use Rattle.path_walk.proofs.GoneThrough.{both_first, both_second, asks_free}
use Rattle.path_walk.proofs.reaching.ways_of.Goals as goal

pub returns-in-Get-clause-first : goal.returns-in-Get-clause-first
returns-in-Get-clause-first c =
    let texts = texts_seen c.args.texts.now in
    let old = all_known c.args.live.items in
    let q = question_of c.args.question.now in
    let free : (hit miss : Tree TestText) → asking q hit miss ≡ Free hit miss =
    λ hit miss. ap (λ x. asking (question_of x) hit miss) c.in-Get.is in
    IfOk-weaker c.both_ways.result (λ ways. all_known ways.first.items ≡ old)
    (λ ways. (hit miss : Tree TestText) → IsIn texts (text_asked q) → all_ahead texts hit (all_known ways.first.items) ≡ those into_first (all_ahead texts (asking q hit miss) old))
    (λ ways e hit miss _. both_first texts hit miss old (all_known ways.first.items) e ∙ ap (λ t. those into_first (all_ahead texts t old)) (sym (free hit miss)))
    c.both_ways.ensures.first

pub returns-in-Get-clause-second : goal.returns-in-Get-clause-second
returns-in-Get-clause-second c =
    let texts = texts_seen c.args.texts.now in
    let old = all_known c.args.live.items in
    let q = question_of c.args.question.now in
    let free : (hit miss : Tree TestText) → asking q hit miss ≡ Free hit miss =
    λ hit miss. ap (λ x. asking (question_of x) hit miss) c.in-Get.is in
    IfOk-weaker c.both_ways.result (λ ways. all_known ways.second.items ≡ old)
    (λ ways. (hit miss : Tree TestText) → IsIn texts (text_asked q) → all_ahead texts miss (all_known ways.second.items) ≡ those into_second (all_ahead texts (asking q hit miss) old))
    (λ ways e hit miss _. both_second texts hit miss old (all_known ways.second.items) e ∙ ap (λ t. those into_second (all_ahead texts t old)) (sym (free hit miss)))
    c.both_ways.ensures.second

pub returns-in-Find-clause-first : goal.returns-in-Find-clause-first
returns-in-Find-clause-first c =
    let texts = texts_seen c.args.texts.now in
    let old = all_known c.args.live.items in
    let q = question_of c.args.question.now in
    let free : (hit miss : Tree TestText) → asking q hit miss ≡ Free hit miss =
    λ hit miss. ap (λ x. asking (question_of x) hit miss) c.in-Find.is in
    IfOk-weaker c.both_ways-in-Find.result (λ ways. all_known ways.first.items ≡ old)
    (λ ways. (hit miss : Tree TestText) → IsIn texts (text_asked q) → all_ahead texts hit (all_known ways.first.items) ≡ those into_first (all_ahead texts (asking q hit miss) old))
    (λ ways e hit miss _. both_first texts hit miss old (all_known ways.first.items) e ∙ ap (λ t. those into_first (all_ahead texts t old)) (sym (free hit miss)))
    c.both_ways-in-Find.ensures.first

pub returns-in-Find-clause-second : goal.returns-in-Find-clause-second
returns-in-Find-clause-second c =
    let texts = texts_seen c.args.texts.now in
    let old = all_known c.args.live.items in
    let q = question_of c.args.question.now in
    let free : (hit miss : Tree TestText) → asking q hit miss ≡ Free hit miss =
    λ hit miss. ap (λ x. asking (question_of x) hit miss) c.in-Find.is in
    IfOk-weaker c.both_ways-in-Find.result (λ ways. all_known ways.second.items ≡ old)
    (λ ways. (hit miss : Tree TestText) → IsIn texts (text_asked q) → all_ahead texts miss (all_known ways.second.items) ≡ those into_second (all_ahead texts (asking q hit miss) old))
    (λ ways e hit miss _. both_second texts hit miss old (all_known ways.second.items) e ∙ ap (λ t. those into_second (all_ahead texts t old)) (sym (free hit miss)))
    c.both_ways-in-Find.ensures.second

pub returns-else-are_of_packet-clause-first : goal.returns-else-are_of_packet-clause-first
returns-else-are_of_packet-clause-first c =
    let texts = texts_seen c.args.texts.now in
    let old = all_known c.args.live.items in
    let q = question_of c.args.question.now in
    let free : (hit miss : Tree TestText) → asking q hit miss ≡ Free hit miss =
    λ hit miss. ap (λ x. asking (question_of x) hit miss) c.in-Test.is
    ∙ asks_free c.in-Test.place c.in-Test.comparison (expression_of c.in-Test.left) (expression_of c.in-Test.right) (sym c.are_of_packet.ensures ∙ c.if-are_of_packet.false) hit miss in
    IfOk-weaker c.both_ways-else-are_of_packet.result (λ ways. all_known ways.first.items ≡ old)
    (λ ways. (hit miss : Tree TestText) → IsIn texts (text_asked q) → all_ahead texts hit (all_known ways.first.items) ≡ those into_first (all_ahead texts (asking q hit miss) old))
    (λ ways e hit miss _. both_first texts hit miss old (all_known ways.first.items) e ∙ ap (λ t. those into_first (all_ahead texts t old)) (sym (free hit miss)))
    c.both_ways-else-are_of_packet.ensures.first

pub returns-else-are_of_packet-clause-second : goal.returns-else-are_of_packet-clause-second
returns-else-are_of_packet-clause-second c =
    let texts = texts_seen c.args.texts.now in
    let old = all_known c.args.live.items in
    let q = question_of c.args.question.now in
    let free : (hit miss : Tree TestText) → asking q hit miss ≡ Free hit miss =
    λ hit miss. ap (λ x. asking (question_of x) hit miss) c.in-Test.is
    ∙ asks_free c.in-Test.place c.in-Test.comparison (expression_of c.in-Test.left) (expression_of c.in-Test.right) (sym c.are_of_packet.ensures ∙ c.if-are_of_packet.false) hit miss in
    IfOk-weaker c.both_ways-else-are_of_packet.result (λ ways. all_known ways.second.items ≡ old)
    (λ ways. (hit miss : Tree TestText) → IsIn texts (text_asked q) → all_ahead texts miss (all_known ways.second.items) ≡ those into_second (all_ahead texts (asking q hit miss) old))
    (λ ways e hit miss _. both_second texts hit miss old (all_known ways.second.items) e ∙ ap (λ t. those into_second (all_ahead texts t old)) (sym (free hit miss)))
    c.both_ways-else-are_of_packet.ensures.second
