use Rattle.std.proofs.Common.{◌≡◌, ◌+◌, ◌++◌, length}
use Rattle.shard_core.specs.Finished.{tables_in}
use Rattle.shard_core.proofs.shards.finishing.tables_of.Given as goal

-- the tables of the first workers were moved
abbrev pub invariant-loop-w : goal.invariant-loop-w
invariant-loop-w l = record {
  moved : l.parts.items ++ tables_in l.workers ≡ tables_in l.fn.workers;
  left : length l.workers + l.w ≡ length l.fn.workers;
}
