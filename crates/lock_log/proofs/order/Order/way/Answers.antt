use Rattle.std.proofs.Common.{List, length, Some, slice_get, option_map, ap, sym, refl, ◌≡◌, ◌<◌, ◌∙◌, arith}
use Rattle.std.proofs.lemmas.Option.{slice_get_read, slice_get_within, same_Some}
use Rattle.lock_core.specs.declared.call.Ordered.{Ordered}
use Rattle.lock_log.specs.Turns.{calls_of_each}
use Rattle.lock_log.proofs.Turning.{turns_long, stands_at}
use Rattle.lock_log.proofs.order.Order.way.Goals as goal
use Rattle.lock_log.specs.Notes.{LogState}
use Rattle.lock_log.specs.Heads.{head_of}
use Rattle.lock_log.specs.declared.log.Head.{Head}

pub index-turn-requires : goal.index-turn-requires
index-turn-requires c =
    let turns = c.self.inside.turns in
    let long = turns_long (calls_of_each c.self.inside.logs.items) turns.items c.self.invariant in
    let same = ap length c.self.view_is in
    omega (arith, c.requires, long, same, turns.ok.0)

pub index-log-requires : goal.index-log-requires
index-log-requires c =
    let logs = c.self.inside.logs in
    let turns = c.self.inside.turns in
    let t = c.index-turn.result.now in
    let long = turns_long (calls_of_each logs.items) turns.items c.self.invariant in
    let same = ap length c.self.view_is in
    let s = stands_at logs.items turns.items c.args.at t c.self.invariant (slice_get_read turns.items (length turns.items) c.args.at t refl (omega (arith, c.requires, long, same)) c.index-turn.ensures) in
    let in_range = slice_get_within logs.items t.seat s.log s.at in
    omega (arith, in_range, logs.ok.0)

pub unreachable-requires : goal.unreachable-requires
unreachable-requires c =
    let logs = c.self.inside.logs in
    let turns = c.self.inside.turns in
    let t = c.index-turn.result.now in
    let long = turns_long (calls_of_each logs.items) turns.items c.self.invariant in
    let same = ap length c.self.view_is in
    let s = stands_at logs.items turns.items c.args.at t c.self.invariant (slice_get_read turns.items (length turns.items) c.args.at t refl (omega (arith, c.requires, long, same)) c.index-turn.ensures) in
    let in_range = slice_get_within logs.items t.seat s.log s.at in
    let log = c.index-log.result.now in
    let log_is : s.log ≡ log = same_Some _ _ (sym s.at ∙ slice_get_read logs.items (length logs.items) t.seat log refl in_range c.index-log.ensures) in
    let has : slice_get log.calls t.number ≡ Some s.call = ap (λ (l : LogState). slice_get l.calls t.number) (sym log_is) ∙ s.has in
    absurd (cc (sym c.in-None.is ∙ (c.head.ensures.value ∙ ap (option_map head_of) has)))

pub returns : goal.returns
returns c = λ x at.
    let logs = c.self.inside.logs in
    let turns = c.self.inside.turns in
    let t = c.index-turn.result.now in
    let long = turns_long (calls_of_each logs.items) turns.items c.self.invariant in
    let same = ap length c.self.view_is in
    let s = stands_at logs.items turns.items c.args.at t c.self.invariant (slice_get_read turns.items (length turns.items) c.args.at t refl (omega (arith, c.requires, long, same)) c.index-turn.ensures) in
    let in_range = slice_get_within logs.items t.seat s.log s.at in
    let log = c.index-log.result.now in
    let log_is : s.log ≡ log = same_Some _ _ (sym s.at ∙ slice_get_read logs.items (length logs.items) t.seat log refl in_range c.index-log.ensures) in
    let has : slice_get log.calls t.number ≡ Some s.call = ap (λ (l : LogState). slice_get l.calls t.number) (sym log_is) ∙ s.has in
    let head : c.in-Some.head ≡ head_of s.call = same_Some _ _ (sym c.in-Some.is ∙ (c.head.ensures.value ∙ ap (option_map head_of) has)) in
    ap (λ (h : Head). h.way) head ∙ sym (ap (λ (z : Ordered). z.way) (s.is x (ap (λ (xs : List Ordered). slice_get xs c.args.at) c.self.view_is ∙ at)))
