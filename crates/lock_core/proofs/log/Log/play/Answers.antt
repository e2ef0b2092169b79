use Rattle.std.proofs.Common.{refl}
use Rattle.lock_core.specs.Logs.{state_in}
use Rattle.lock_core.proofs.Logging.{played_on, refused_at, all_played, on_err}
use Rattle.lock_core.proofs.log.Log.play.Goals as goal

pub returns-in_err-reserve-clause-err : goal.returns-in_err-reserve-clause-err
returns-in_err-reserve-clause-err c =
    let now = state_in c.loop-event.self in
    on_err c.from_residual.result _ (refused_at (state_in c.args.self.now) now now c.args.events.now c.loop-event.event-index c.event-item.result c.loop-event.all.items c.loop-event-test.true c.event-item.is c.loop-event.invariant refl)

pub returns-in_err-placed-clause-err : goal.returns-in_err-placed-clause-err
returns-in_err-placed-clause-err c =
    let now = state_in c.loop-event.self in
    on_err c.from_residual-in_err-placed.result _ (refused_at (state_in c.args.self.now) now (state_in c.play_one.new.self) c.args.events.now c.loop-event.event-index c.event-item.result c.loop-event.all.items c.loop-event-test.true c.event-item.is c.loop-event.invariant c.in_err-placed.ensures.same)

pub loop-event-preserved : goal.loop-event-preserved
loop-event-preserved c =
    played_on (state_in c.args.self.now) (state_in c.loop-event.self) (state_in c.play_one.new.self) c.args.events.now c.loop-event.event-index c.event-item.result c.in_ok-placed.placed c.loop-event.all.items c.reserve.new.self.items c.put.new.items.items
    c.loop-event-test.true c.event-item.is c.loop-event.invariant c.in_ok-placed.ensures.answers c.in_ok-placed.ensures.order c.reserve.ensures.items c.put.ensures

pub returns-clause-one_history : goal.returns-clause-one_history
returns-clause-one_history c = all_played (state_in c.args.self.now) (state_in c.loop-event.self) c.args.events.now c.loop-event.event-index c.loop-event.all.items c.loop-event-test.false c.loop-event.invariant
