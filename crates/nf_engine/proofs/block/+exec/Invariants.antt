-- what is left of the block goes as the whole does, with room for what it binds and makes
use Rattle.std.proofs.Common.{◌≡◌, ◌+◌, ◌≤◌, List, ℕ, length}
use Rattle.nf_base.specs.declared.block.Block.{size-Block}
use Rattle.nf_base.specs.Course.{exec}
use Rattle.nf_base.specs.View.{block_of}
use Rattle.nf_engine.specs.View.{input_of, fixed_of}
use Rattle.nf_engine.specs.Stops.{stops_of}
use Rattle.nf_engine.specs.Choices.{MayBe, Consumes, context_by}
use Rattle.nf_engine.specs.Course.{news, lookups, BlockFits}
use Rattle.nf_engine.proofs.block.+exec.Given as goal

abbrev pub invariant-loop-rest : goal.invariant-loop-rest
invariant-loop-rest g l = record {
  smaller : size-Block l.rest ≤ size-Block l.block;
  fits : BlockFits l.p.decls (block_of l.rest);
  vars : length l.context.vars + lookups (block_of l.rest) ≤ length l.fn.context.vars + lookups (block_of l.block);
  picks : length l.context.picks + news (block_of l.rest) ≤ length l.fn.context.picks + news (block_of l.block);
  stays : fixed_of l.tables ≡ fixed_of l.fn.tables;
  goes : (all : List ℕ) → MayBe l.p.choices l.context.picks all → Consumes l.p l.fn.context.picks l.context.picks all × (exec (stops_of l.p) (input_of l.p) (block_of l.block) (context_by all l.fn.tables l.fn.context) ≡ exec (stops_of l.p) (input_of l.p) (block_of l.rest) (context_by all l.tables l.context));
}
