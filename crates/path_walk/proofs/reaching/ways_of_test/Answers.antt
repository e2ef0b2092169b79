use Rattle.std.proofs.Common.{◌≡◌, true, false, refl}
use Rattle.std.specs.List.{flat_map}
use Rattle.std.proofs.lemmas.Result.{IfOk-weaker}
use Rattle.path_walk.specs.declared.ways.Asked.{Asked}
use Rattle.path_walk.specs.Alive.{into_first, into_second, those}
use Rattle.path_walk.specs.Numbering.{texts_seen}
use Rattle.path_walk.specs.Trees.{Tree, Tested}
use Rattle.path_walk.specs.Tests.{TestText}
use Rattle.path_walk.specs.Seen.{text_seen}
use Rattle.path_walk.specs.Ahead.{behind_test, all_known, all_ahead, HasText}
use Rattle.path_walk.proofs.GoneThrough.{tested_first, tested_second}
use Rattle.path_walk.proofs.reaching.ways_of_test.Goals as goal

pub returns-clause-first : goal.returns-clause-first
returns-clause-first c =
    let texts = texts_seen c.args.texts.now in
    let x = text_seen c.args.text.now in
    let old = all_known c.args.live.items in
    let t : Asked = record { number = c.in_ok-number.number; equals = c.equals-equals.result; exchanged = c.args.exchanged } in
    IfOk-weaker c.tested.result (λ ways. all_known ways.first.items ≡ flat_map (behind_test t true) old)
    (λ ways. (hit miss : Tree TestText) → HasText texts x → all_ahead texts hit (all_known ways.first.items) ≡ those into_first (all_ahead texts (Tested x c.args.exchanged hit miss) old))
    (λ ways e hit miss has. tested_first texts t x c.args.exchanged hit miss old (all_known ways.first.items) c.requires.apart (c.in_ok-number.ensures.within has) (c.in_ok-number.ensures.at has) c.equals-equals.ensures refl e)
    c.tested.ensures.first

pub returns-clause-second : goal.returns-clause-second
returns-clause-second c =
    let texts = texts_seen c.args.texts.now in
    let x = text_seen c.args.text.now in
    let old = all_known c.args.live.items in
    let t : Asked = record { number = c.in_ok-number.number; equals = c.equals-equals.result; exchanged = c.args.exchanged } in
    IfOk-weaker c.tested.result (λ ways. all_known ways.second.items ≡ flat_map (behind_test t false) old)
    (λ ways. (hit miss : Tree TestText) → HasText texts x → all_ahead texts miss (all_known ways.second.items) ≡ those into_second (all_ahead texts (Tested x c.args.exchanged hit miss) old))
    (λ ways e hit miss has. tested_second texts t x c.args.exchanged hit miss old (all_known ways.second.items) c.requires.apart (c.in_ok-number.ensures.within has) (c.in_ok-number.ensures.at has) c.equals-equals.ensures refl e)
    c.tested.ensures.second
