use Rattle.std.proofs.Common.{refl}
use Rattle.hash_slots.specs.Places.{home}
use Rattle.hash_slots.proofs.gap.home.Goals as goal

pub returns-clause-value : goal.returns-clause-value
unfolding home
returns-clause-value c = refl
