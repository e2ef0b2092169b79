use Rattle.shard_rules.proofs.Keeping.{of_object, kept_known, kept_rise}
use Rattle.shard_rules.proofs.laws.kept_labels_are_known.Goals as goal

pub returns : goal.returns
returns c = record { sites = of_object; known = kept_known; rising = kept_rise }
