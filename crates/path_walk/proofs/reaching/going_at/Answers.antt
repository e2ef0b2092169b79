use Rattle.std.proofs.Common.{◌≡◌, ◌∙◌, ap, sym}
use Rattle.nf_base.specs.View.{expression_of, question_of}
use Rattle.path_walk.specs.Alive.{into_first, into_second, those, is_any}
use Rattle.path_walk.specs.Numbering.{texts_seen}
use Rattle.path_walk.specs.Trees.{Tree, Free, asking}
use Rattle.path_walk.specs.Tests.{TestText}
use Rattle.path_walk.specs.Ahead.{all_known, all_ahead}
use Rattle.path_walk.proofs.GoneThrough.{asks_free}
use Rattle.path_walk.proofs.InVain.{free_hits, free_misses}
use Rattle.path_walk.proofs.reaching.going_at.Goals as goal

pub returns-in-Get-clause-first : goal.returns-in-Get-clause-first
returns-in-Get-clause-first c =
    let texts = texts_seen c.args.texts.now in
    let old = all_known c.args.live.now in
    let q = question_of c.args.question.now in
    let free : (hit miss : Tree TestText) → asking q hit miss ≡ Free hit miss =
    λ hit miss. ap (λ x. asking (question_of x) hit miss) c.in-Get.is in
    λ hit miss _. c.going_both.ensures.hits ∙ free_hits texts hit miss old ∙ ap (λ t. is_any (those into_first (all_ahead texts t old))) (sym (free hit miss))

pub returns-in-Get-clause-second : goal.returns-in-Get-clause-second
returns-in-Get-clause-second c =
    let texts = texts_seen c.args.texts.now in
    let old = all_known c.args.live.now in
    let q = question_of c.args.question.now in
    let free : (hit miss : Tree TestText) → asking q hit miss ≡ Free hit miss =
    λ hit miss. ap (λ x. asking (question_of x) hit miss) c.in-Get.is in
    λ hit miss _. c.going_both.ensures.misses ∙ free_misses texts hit miss old ∙ ap (λ t. is_any (those into_second (all_ahead texts t old))) (sym (free hit miss))

pub returns-in-Find-clause-first : goal.returns-in-Find-clause-first
returns-in-Find-clause-first c =
    let texts = texts_seen c.args.texts.now in
    let old = all_known c.args.live.now in
    let q = question_of c.args.question.now in
    let free : (hit miss : Tree TestText) → asking q hit miss ≡ Free hit miss =
    λ hit miss. ap (λ x. asking (question_of x) hit miss) c.in-Find.is in
    λ hit miss _. c.going_both-in-Find.ensures.hits ∙ free_hits texts hit miss old ∙ ap (λ t. is_any (those into_first (all_ahead texts t old))) (sym (free hit miss))

pub returns-in-Find-clause-second : goal.returns-in-Find-clause-second
returns-in-Find-clause-second c =
    let texts = texts_seen c.args.texts.now in
    let old = all_known c.args.live.now in
    let q = question_of c.args.question.now in
    let free : (hit miss : Tree TestText) → asking q hit miss ≡ Free hit miss =
    λ hit miss. ap (λ x. asking (question_of x) hit miss) c.in-Find.is in
    λ hit miss _. c.going_both-in-Find.ensures.misses ∙ free_misses texts hit miss old ∙ ap (λ t. is_any (those into_second (all_ahead texts t old))) (sym (free hit miss))

pub returns-else-are_of_packet-clause-first : goal.returns-else-are_of_packet-clause-first
returns-else-are_of_packet-clause-first c =
    let texts = texts_seen c.args.texts.now in
    let old = all_known c.args.live.now in
    let q = question_of c.args.question.now in
    let free : (hit miss : Tree TestText) → asking q hit miss ≡ Free hit miss =
    λ hit miss. ap (λ x. asking (question_of x) hit miss) c.in-Test.is
    ∙ asks_free c.in-Test.place c.in-Test.comparison (expression_of c.in-Test.left) (expression_of c.in-Test.right) (sym c.are_of_packet.ensures ∙ c.if-are_of_packet.false) hit miss in
    λ hit miss _. c.going_both-else-are_of_packet.ensures.hits ∙ free_hits texts hit miss old ∙ ap (λ t. is_any (those into_first (all_ahead texts t old))) (sym (free hit miss))

pub returns-else-are_of_packet-clause-second : goal.returns-else-are_of_packet-clause-second
returns-else-are_of_packet-clause-second c =
    let texts = texts_seen c.args.texts.now in
    let old = all_known c.args.live.now in
    let q = question_of c.args.question.now in
    let free : (hit miss : Tree TestText) → asking q hit miss ≡ Free hit miss =
    λ hit miss. ap (λ x. asking (question_of x) hit miss) c.in-Test.is
    ∙ asks_free c.in-Test.place c.in-Test.comparison (expression_of c.in-Test.left) (expression_of c.in-Test.right) (sym c.are_of_packet.ensures ∙ c.if-are_of_packet.false) hit miss in
    λ hit miss _. c.going_both-else-are_of_packet.ensures.misses ∙ free_misses texts hit miss old ∙ ap (λ t. is_any (those into_second (all_ahead texts t old))) (sym (free hit miss))
