-- what is left of the code goes as the whole does, and all before it changed nothing
use Rattle.std.proofs.Common.{◌≡◌, ◌+◌, ◌<◌, ◌≤◌, List, ℕ, length}
use Rattle.nf_base.specs.Context as context
use Rattle.nf_base.specs.Course.{exec, events}
use Rattle.nf_base.specs.Events.{Event}
use Rattle.nf_base.specs.Operations.{never}
use Rattle.nf_base.specs.Record.{is_quiet}
use Rattle.nf_code.specs.Code.{block_at}
use Rattle.nf_engine.specs.View.{context_of, input_of}
use Rattle.nf_engine.specs.Course.{BlockFits}
use Rattle.nf_engine.specs.Ways.{most_bound}
use Rattle.nf_engine.proofs.code_look.look_code.Given as goal

abbrev pub invariant-steps : goal.invariant-steps
invariant-steps g l = record {
  within : l.at < length l.code;
  fits : BlockFits l.p.decls (block_at l.code l.at);
  room : length l.context.vars + most_bound (block_at l.code l.at) ≤ 32;
  goes : (left : List ℕ) → exec never (input_of l.p) (block_at l.code l.start) (context_of l.tables left l.fn.context) ≡ exec never (input_of l.p) (block_at l.code l.at) (context_of l.tables left l.context);
  told : (left : List ℕ) (k : context.Context → List Event) → is_quiet (events never (input_of l.p) (block_at l.code l.start) (context_of l.tables left l.fn.context) k) ≡ is_quiet (events never (input_of l.p) (block_at l.code l.at) (context_of l.tables left l.context) k);
}

abbrev pub decreases-steps : goal.decreases-steps
decreases-steps g l = l.at
