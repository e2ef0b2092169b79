use Rattle.std.proofs.Common.{refl}
use Rattle.lock_core.proofs.rows.only_alone_is_history.Goals as goal

pub returns : goal.returns
returns c = refl
