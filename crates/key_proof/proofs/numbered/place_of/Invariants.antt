-- what is there, and what is still to come, are the whole
use Rattle.std.proofs.Common.{◌≡◌, ◌++◌, drop}
use Rattle.std.specs.List.{filter_map}
use Rattle.shard_rules.specs.Sites.{field_at}
use Rattle.key_proof.proofs.numbered.place_of.Given as goal

abbrev pub invariant-loop-label : goal.invariant-loop-label
invariant-loop-label l = l.known ++ filter_map (field_at l.site) (drop l.label-index l.kept) ≡ filter_map (field_at l.site) l.kept
