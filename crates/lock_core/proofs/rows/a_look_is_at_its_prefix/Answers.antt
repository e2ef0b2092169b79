use Rattle.std.proofs.Common.{refl}
use Rattle.lock_core.proofs.rows.a_look_is_at_its_prefix.Goals as goal

pub returns-clause-calls : goal.returns-clause-calls
returns-clause-calls c = (refl, refl, refl)

pub returns-clause-seen : goal.returns-clause-seen
returns-clause-seen c = (refl, refl, refl, refl)

pub returns-clause-put : goal.returns-clause-put
returns-clause-put c = refl
