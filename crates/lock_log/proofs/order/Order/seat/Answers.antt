use Rattle.std.proofs.Common.{List, length, slice_get, ap, sym, refl, ◌∙◌, arith}
use Rattle.std.proofs.lemmas.Option.{slice_get_read}
use Rattle.lock_core.specs.declared.call.Ordered.{Ordered}
use Rattle.lock_log.specs.Turns.{calls_of_each}
use Rattle.lock_log.proofs.Turning.{turns_long, stands_at}
use Rattle.lock_log.proofs.order.Order.seat.Goals as goal

pub index-requires : goal.index-requires
index-requires c =
    let turns = c.self.inside.turns in
    let long = turns_long (calls_of_each c.self.inside.logs.items) turns.items c.self.invariant in
    let same = ap length c.self.view_is in
    omega (arith, c.requires, long, same, turns.ok.0)

pub returns : goal.returns
returns c = λ x at.
    let logs = c.self.inside.logs in
    let turns = c.self.inside.turns in
    let t = c.index.result.now in
    let long = turns_long (calls_of_each logs.items) turns.items c.self.invariant in
    let same = ap length c.self.view_is in
    let s = stands_at logs.items turns.items c.args.at t c.self.invariant (slice_get_read turns.items (length turns.items) c.args.at t refl (omega (arith, c.requires, long, same)) c.index.ensures) in
    sym (ap (λ (z : Ordered). z.seat) (s.is x (ap (λ (xs : List Ordered). slice_get xs c.args.at) c.self.view_is ∙ at)))
