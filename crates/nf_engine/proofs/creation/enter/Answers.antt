use Rattle.std.proofs.Common.{◌∙◌, sym}
use Rattle.nf_engine.proofs.Comings.{comes_anywhere, comes_at}
use Rattle.nf_engine.proofs.creation.enter.Goals as goal

pub returns-in-None-clause-comes : goal.returns-in-None-clause-comes
returns-in-None-clause-comes g c =
    comes_anywhere c.make_anywhere.result c.args.p.now c.args.picks.now c.args.chain c.args.labels.now c.args.tables.now.state.chains (sym c.choices.ensures ∙ c.in-None.is) c.make_anywhere.ensures.cause c.make_anywhere.ensures.legal

pub returns-in-Some-clause-comes : goal.returns-in-Some-clause-comes
returns-in-Some-clause-comes g c =
    comes_at c.make_at.result c.args.p.now c.args.picks.now c.args.chain c.args.labels.now c.args.tables.now.state.chains c.in-Some.choices c.next_choice.result (sym c.choices.ensures ∙ c.in-Some.is) c.next_choice.ensures c.make_at.ensures.cause c.make_at.ensures.next c.make_at.ensures.illegal
