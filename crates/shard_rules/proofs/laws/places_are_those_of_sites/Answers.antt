use Rattle.shard_rules.proofs.Keeping.{each_has}
use Rattle.shard_rules.proofs.EachOnce.{those_of_sites, each_stands_once, in_order}
use Rattle.shard_rules.proofs.laws.places_are_those_of_sites.Goals as goal

pub returns : goal.returns
returns c = record { fields = each_has; places = those_of_sites; once = each_stands_once; order = in_order }
