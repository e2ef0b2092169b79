use Rattle.std.proofs.Common.{[], Option, None, refl, ap, sym, ◌∙◌, subst, arith}
use Rattle.nf_base.specs.Functions.{function_of}
use Rattle.nf_base.specs.Step.{opening}
use Rattle.vig_tables.specs.TablesState.{TablesState}
use Rattle.ring_line.specs.declared.halt.Halt.{Halt}
use Rattle.ring_line.specs.Packs.{Packed, answers_of}
use Rattle.ring_line.specs.Handled.{CameTo, none_yet}
use Rattle.ring_line.proofs.inline_worker.InlineWorker.new.Goals as goal

pub returns-clause-stands : goal.returns-clause-stands
returns-clause-stands g c = λ share opened.
    let queue_handler = c.args.queue_handler in
    let f = function_of queue_handler.func in
    record {
      func_is = refl;
      share_is = ap (λ (t : TablesState). t.share) opened;
      served = λ k d lt. absurd (omega (arith, lt));
      worked = [];
      packets_are = sym (ap (λ (p : Packed). p.packets) c.requires.filling);
      came = subst (λ (p : Packed). CameTo f share (opening f) [] (answers_of p) queue_handler.halt queue_handler.tables.state) (sym c.requires.current)
          (subst (λ (o : Option Halt). CameTo f share (opening f) [] [] o queue_handler.tables.state) (sym c.requires.running)
          (subst (λ (t : TablesState). CameTo f share (opening f) [] [] None t.state) (sym opened) (none_yet, refl)));
      last = ap (λ (p : Packed). p.halt) c.requires.current ∙ sym c.requires.running;
    }
