use Rattle.std.proofs.Common.{List, subst}
use Rattle.lock_log.specs.Turns.{in_turn}
use Rattle.lock_mode.specs.Seats.{SeatState}
use Rattle.lock_mode.specs.Closing.{IsClosed}
use Rattle.lock_mode.specs.Merging.{calls_each}
use Rattle.lock_mode.proofs.shared.Shared.close.Goals as goal

pub closed_of-requires-clause-closed : goal.closed_of-requires-clause-closed
closed_of-requires-clause-closed g c =
    let turned = c.in-Ok-close.turned in
    subst (λ (ss : List SeatState). IsClosed g.J.Naming.function ss (in_turn (calls_each ss) turned.turns.items) turned.tables) c.as_slice.ensures.value c.in-Ok-close.ensures.closed
