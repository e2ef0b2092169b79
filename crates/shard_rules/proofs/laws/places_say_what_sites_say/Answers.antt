use Rattle.shard_rules.proofs.Own.{own_kept}
use Rattle.shard_rules.proofs.Admitted.{say_the_same}
use Rattle.shard_rules.proofs.laws.places_say_what_sites_say.Goals as goal

pub returns : goal.returns
returns c = record { kept = own_kept; keys = say_the_same }
