use Rattle.std.specs.Prelude.{◌≡◌}
use Rattle.lock_log.specs.Turns.{in_turn}
use Rattle.lock_mode.specs.Merging.{calls_each}
use Rattle.lock_mode.proofs.Merging.{merged_all}
use Rattle.lock_mode.proofs.merge.Merge.into_turns.Goals as goal

pub returns-clause-merged : goal.returns-clause-merged
returns-clause-merged g c =
    let whole = c.if-not-is_whole.ensures in
    let seats = c.args.seats.now in
    merged_all g.J.Naming.function c.args.all.now seats (in_turn (calls_each seats) c.args.self.turns.items) c.args.self.taken.items c.args.self.entries c.requires.merged.merged c.requires.seen whole.0 whole.1
