use Rattle.std.proofs.Common.{length, ap, sym, ◌∙◌}
use Rattle.lock_log.specs.Turns.{calls_of_each}
use Rattle.lock_log.proofs.Turning.{turns_long}
use Rattle.lock_log.proofs.order.Order.len.Goals as goal

pub returns : goal.returns
returns c =
    let turns = c.self.inside.turns in
    c.len.ensures ∙ (turns.ok.0 ∙ (sym (turns_long (calls_of_each c.self.inside.logs.items) turns.items c.self.invariant) ∙ ap length c.self.view_is))
