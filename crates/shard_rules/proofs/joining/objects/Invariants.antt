-- what is there, and what is still to come, are the whole
use Rattle.std.proofs.Common.{◌≡◌, ◌++◌, drop}
use Rattle.std.specs.List.{filter_map}
use Rattle.nf_base.specs.Functions.{function_of}
use Rattle.shard_rules.specs.Plans.{written_places}
use Rattle.shard_rules.proofs.joining.objects.Given as goal

abbrev pub invariant-loop-object : goal.invariant-loop-object
invariant-loop-object l = l.all ++ filter_map (written_places (function_of l.func) l.sites) (drop l.object-index l.object-items) ≡ filter_map (written_places (function_of l.func) l.sites) l.object-items
