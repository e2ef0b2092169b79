-- those so far have expired
use Rattle.std.proofs.Common.{◌≡◌, ◌++◌, take, drop, map}
use Rattle.vig_tables.specs.Table.{without_past}
use Rattle.vig_tables.proofs.tables.expire_all.Given as goal

abbrev pub invariant-loop-k : goal.invariant-loop-k
invariant-loop-k l = l.chains ≡ map (without_past l.time) (take l.k l.initial.chains) ++ drop l.k l.initial.chains
