use Rattle.std.proofs.Common.{refl}
use Rattle.lock_core.proofs.rows.a_seat_sees_its_own.Goals as goal

pub returns-clause-looks : goal.returns-clause-looks
returns-clause-looks c = record { state = _; comes = refl; steps = refl; is_quiet = refl }

pub returns-clause-writes : goal.returns-clause-writes
returns-clause-writes c = refl
