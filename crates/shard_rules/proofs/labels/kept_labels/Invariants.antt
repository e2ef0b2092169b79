-- what is there, and what is still to come, are the whole
use Rattle.std.proofs.Common.{◌≡◌, ◌++◌, ◌-◌, filter}
use Rattle.std.specs.List.{range_with_len}
use Rattle.shard_rules.specs.Sites.{object_sites}
use Rattle.shard_rules.specs.Rules.{is_kept}
use Rattle.shard_rules.proofs.labels.kept_labels.Given as goal

abbrev pub invariant-loop-label : goal.invariant-loop-label
invariant-loop-label l = l.kept ++ filter (is_kept (object_sites l.object l.sites)) (range_with_len l.label (l.count - l.label)) ≡ filter (is_kept (object_sites l.object l.sites)) (range_with_len 0 l.count)
