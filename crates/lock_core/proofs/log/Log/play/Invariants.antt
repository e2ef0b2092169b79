-- the events so far were played, and the others may still come
use Rattle.std.proofs.Common.{◌≡◌, List, map, take, drop}
use Rattle.lock_core.specs.Events.{Turn, Plays, AreValid}
use Rattle.lock_core.specs.Logs.{state_in, with_order}
use Rattle.lock_core.proofs.log.Log.play.Given as goal

abbrev pub invariant-loop-event : goal.invariant-loop-event
invariant-loop-event l =
    let old = state_in l.fn.self in
    let new = state_in l.self in
    (turns : List Turn)
    × ((new ≡ with_order new.order old)
    × (map (λ (t : Turn). t.event) turns ≡ take l.event-index l.events)
    × (map (λ (t : Turn). t.placed) turns ≡ l.all.items)
    × Plays old.function old.seats old.order turns new.order
    × AreValid old.function old.seats new.order (drop l.event-index l.events))
