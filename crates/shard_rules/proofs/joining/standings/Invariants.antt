-- what is there, and what is still to come, are the whole
use Rattle.std.proofs.Common.{◌≡◌, ◌++◌, drop, map}
use Rattle.nf_base.specs.Functions.{function_of}
use Rattle.shard_rules.specs.Plans.{standing}
use Rattle.shard_rules.proofs.joining.standings.Given as goal

abbrev pub invariant-loop-object : goal.invariant-loop-object
invariant-loop-object l = l.all ++ map (standing (function_of l.func) l.sites) (drop l.object-index l.object-items) ≡ map (standing (function_of l.func) l.sites) l.object-items
