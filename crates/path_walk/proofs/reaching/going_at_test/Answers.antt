use Rattle.std.proofs.Common.{◌∙◌, refl}
use Rattle.path_walk.specs.declared.ways.Asked.{Asked}
use Rattle.path_walk.specs.Numbering.{texts_seen}
use Rattle.path_walk.specs.Seen.{text_seen}
use Rattle.path_walk.specs.Ahead.{all_known}
use Rattle.path_walk.proofs.InVain.{test_hits, test_misses}
use Rattle.path_walk.proofs.reaching.going_at_test.Goals as goal

pub returns-clause-first : goal.returns-clause-first
returns-clause-first c =
    let t : Asked = record { number = c.in_ok-number.number; equals = c.equals-equals.result; exchanged = c.args.exchanged } in
    λ hit miss has.
    c.going_on.ensures.hits
    ∙ test_hits (texts_seen c.args.texts.now) t (text_seen c.args.text.now) c.args.exchanged hit miss (all_known c.args.live.now) c.requires.apart (c.in_ok-number.ensures.within has) (c.in_ok-number.ensures.at has) c.equals-equals.ensures refl

pub returns-clause-second : goal.returns-clause-second
returns-clause-second c =
    let t : Asked = record { number = c.in_ok-number.number; equals = c.equals-equals.result; exchanged = c.args.exchanged } in
    λ hit miss has.
    c.going_on.ensures.misses
    ∙ test_misses (texts_seen c.args.texts.now) t (text_seen c.args.text.now) c.args.exchanged hit miss (all_known c.args.live.now) c.requires.apart (c.in_ok-number.ensures.within has) (c.in_ok-number.ensures.at has) c.equals-equals.ensures refl
