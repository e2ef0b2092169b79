use Rattle.lock_mode.proofs.Merging.{turns_none}
use Rattle.lock_mode.proofs.merge.Merge.new.Goals as goal

pub returns : goal.returns
returns g c = turns_none g.J.Naming.function c.args.all.now c.args.seats.now c.in_ok-turns.turns.items c.in_ok-taken.taken.items c.in_ok-turns.ensures.items c.in_ok-taken.ensures
