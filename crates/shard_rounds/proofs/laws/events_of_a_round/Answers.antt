use Rattle.std.proofs.Common.{refl}
use Rattle.shard_rounds.proofs.laws.events_of_a_round.Goals as goal

pub returns : goal.returns
returns c = λ share. record { new = refl; waiting = refl; none = refl; beyond = refl }
