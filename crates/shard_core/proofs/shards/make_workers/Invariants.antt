use Rattle.nf_base.specs.Functions.{function_of}
use Rattle.shard_core.specs.Sharded.{AreNew}
use Rattle.shard_core.proofs.shards.make_workers.Given as goal

-- so many were made
abbrev pub invariant-loop-w : goal.invariant-loop-w
invariant-loop-w l = record {
  made : AreNew (function_of l.func) l.workers l.w l.made;
}
