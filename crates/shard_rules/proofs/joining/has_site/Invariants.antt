-- what is left decides
use Rattle.std.proofs.Common.{◌≡◌, drop}
use Rattle.shard_rules.specs.Sites.{object_sites}
use Rattle.shard_rules.specs.Plans.{is_any}
use Rattle.shard_rules.proofs.joining.has_site.Given as goal

abbrev pub invariant-loop-site : goal.invariant-loop-site
invariant-loop-site l = is_any (object_sites l.object (drop l.site-index l.sites)) ≡ is_any (object_sites l.object l.sites)
