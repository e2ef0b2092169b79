use Rattle.std.proofs.Common.{le_refl, length}
use Rattle.lock_mode.proofs.Rising.{sees}
use Rattle.lock_mode.proofs.seat_reader.catch_up.Goals as goal

pub enter_as-requires : goal.enter_as-requires
enter_as-requires g c x = sees _ _ x x (λ t. t) (le_refl (length x.0))
