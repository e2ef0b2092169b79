-- what is left of the block decides
use Rattle.std.proofs.Common.{◌≡◌, ◌≤◌}
use Rattle.nf_base.specs.declared.block.Block.{size-Block}
use Rattle.nf_base.specs.View.{block_of}
use Rattle.shard_rules.proofs.Writing.{block_writes}
use Rattle.shard_rules.proofs.written.+is_written_in.Given as goal

abbrev pub invariant-loop-rest : goal.invariant-loop-rest
invariant-loop-rest l = record {
  smaller : size-Block l.rest ≤ size-Block l.block;
  same : block_writes l.object (block_of l.rest) ≡ block_writes l.object (block_of l.block);
}
