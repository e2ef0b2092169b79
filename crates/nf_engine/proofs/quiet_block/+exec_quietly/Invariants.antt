-- what is left of the block goes as the whole does, and all before it changed nothing
use Rattle.std.proofs.Common.{◌≡◌, ◌+◌, ◌≤◌, List, ℕ, length}
use Rattle.nf_base.specs.declared.block.Block.{size-Block}
use Rattle.nf_base.specs.Context as context
use Rattle.nf_base.specs.Course.{exec, events}
use Rattle.nf_base.specs.Events.{Event}
use Rattle.nf_base.specs.Operations.{never}
use Rattle.nf_base.specs.Record.{is_quiet}
use Rattle.nf_base.specs.View.{block_of}
use Rattle.nf_engine.specs.View.{context_of, input_of}
use Rattle.nf_engine.specs.Course.{lookups, BlockFits}
use Rattle.nf_engine.proofs.quiet_block.+exec_quietly.Given as goal

abbrev pub invariant-loop-rest : goal.invariant-loop-rest
invariant-loop-rest g l = record {
  smaller : size-Block l.rest ≤ size-Block l.block;
  fits : BlockFits l.p.decls (block_of l.rest);
  vars : length l.context.vars + lookups (block_of l.rest) ≤ length l.fn.context.vars + lookups (block_of l.block);
  goes : (left : List ℕ) → exec never (input_of l.p) (block_of l.block) (context_of l.tables left l.fn.context) ≡ exec never (input_of l.p) (block_of l.rest) (context_of l.tables left l.context);
  told : (left : List ℕ) (k : context.Context → List Event) → is_quiet (events never (input_of l.p) (block_of l.block) (context_of l.tables left l.fn.context) k) ≡ is_quiet (events never (input_of l.p) (block_of l.rest) (context_of l.tables left l.context) k);
}
