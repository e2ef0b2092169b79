use Rattle.std.proofs.Common.{refl}
use Rattle.lock_core.proofs.rows.both_orders_are_right.Goals as goal

pub returns : goal.returns
returns c = (
  record { state = _; next = _; comes = refl; steps = refl },
  record { state = _; next = _; comes = refl; steps = refl },
  record { state = _; next = _; comes = refl; steps = refl },
  record { state = _; next = _; comes = refl; steps = refl },
)
