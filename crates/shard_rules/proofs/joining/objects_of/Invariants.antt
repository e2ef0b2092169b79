-- the objects of the sites that were gone along
use Rattle.std.proofs.Common.{◌≡◌, take}
use Rattle.shard_rules.specs.Plans.{objects_of}
use Rattle.shard_rules.proofs.joining.objects_of.Given as goal

abbrev pub invariant-loop-site : goal.invariant-loop-site
invariant-loop-site l = l.all.items ≡ objects_of (take l.site-index l.sites)
