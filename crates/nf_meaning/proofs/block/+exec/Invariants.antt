-- what is left of the block goes as the whole does, and makes no more entries
use Rattle.std.proofs.Common.{◌+◌, ◌≤◌, length}
use Rattle.nf_base.specs.declared.block.Block.{size-Block}
use Rattle.nf_base.specs.View.{block_of}
use Rattle.nf_meaning.specs.Course.{GoesOn, news}
use Rattle.nf_meaning.proofs.block.+exec.Given as goal

abbrev pub invariant-loop-rest : goal.invariant-loop-rest
invariant-loop-rest l = record {
  smaller : size-Block l.rest ≤ size-Block l.block;
  room : length l.context.picks + news (block_of l.rest) ≤ length l.fn.context.picks + news (block_of l.block);
  goes : GoesOn l.p (block_of l.block) (block_of l.rest) l.fn.context l.context;
}
