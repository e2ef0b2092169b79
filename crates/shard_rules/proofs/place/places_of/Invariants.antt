-- the places of the sites that were gone along
use Rattle.std.proofs.Common.{◌≡◌, take}
use Rattle.shard_rules.specs.Sites.{object_sites}
use Rattle.shard_rules.specs.Places.{places_of}
use Rattle.shard_rules.proofs.place.places_of.Given as goal

abbrev pub invariant-loop-site : goal.invariant-loop-site
invariant-loop-site l = l.places ≡ places_of l.kept (object_sites l.object (take l.site-index l.sites))
