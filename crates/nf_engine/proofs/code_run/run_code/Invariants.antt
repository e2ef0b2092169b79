-- what is left of the code goes as the whole does, with room for what any way binds and makes
use Rattle.std.proofs.Common.{◌≡◌, ◌<◌, List, ℕ, length}
use Rattle.nf_base.specs.Course.{exec}
use Rattle.nf_code.specs.Code.{block_at}
use Rattle.nf_engine.specs.View.{input_of, fixed_of}
use Rattle.nf_engine.specs.Stops.{stops_of}
use Rattle.nf_engine.specs.Choices.{MayBe, Consumes, context_by}
use Rattle.nf_engine.specs.Course.{BlockFits}
use Rattle.nf_engine.specs.Ways.{HasWay}
use Rattle.nf_engine.proofs.code_run.run_code.Given as goal

abbrev pub invariant-steps : goal.invariant-steps
invariant-steps g l = record {
  within : l.at < length l.code;
  fits : BlockFits l.p.decls (block_at l.code l.at);
  room : HasWay l.context (block_at l.code l.at);
  stays : fixed_of l.tables ≡ fixed_of l.fn.tables;
  goes : (all : List ℕ) → MayBe l.p.choices l.context.picks all → Consumes l.p l.fn.context.picks l.context.picks all × (exec (stops_of l.p) (input_of l.p) (block_at l.code l.start) (context_by all l.fn.tables l.fn.context) ≡ exec (stops_of l.p) (input_of l.p) (block_at l.code l.at) (context_by all l.tables l.context));
}

abbrev pub decreases-steps : goal.decreases-steps
decreases-steps g l = l.at
