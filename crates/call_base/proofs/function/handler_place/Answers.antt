use Rattle.std.proofs.Common.{sym, ◌∙◌}
use Rattle.call_base.proofs.Handlers.{handler_place_is}
use Rattle.call_base.proofs.function.handler_place.Goals as goal

pub returns-then-is_at : goal.returns-then-is_at
returns-then-is_at c =
    handler_place_is c.args.handlers.now c.loop-one.one-index c.one-item.result c.args.door c.loop-one-test.true c.one-item.is (sym c.is_at.ensures ∙ c.if-is_at.true)
