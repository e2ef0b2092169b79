use Rattle.std.proofs.Common.{[], ap, sym, ◌∙◌, subst}
use Rattle.nf_base.specs.declared.func.Func.{Func}
use Rattle.nf_base.specs.Functions.{function_of}
use Rattle.nf_base.specs.Text.{Function}
use Rattle.vig_tables.specs.TablesState.{opened_tables}
use Rattle.ring_line.specs.InlineWorkers.{InlineWorkerStands}
use Rattle.ring_line.proofs.queue_worker.QueueWorker.beside.Goals as goal

pub returns-clause-stands : goal.returns-clause-stands
returns-clause-stands g c = record {
  func = c.in_ok-text.text;
  same = c.in_ok-text.ensures;
  stands = subst (λ (h : Func). InlineWorkerStands c.new-2.result h c.args.share [] []) c.in_ok-queue_handler.ensures.func
      (c.new-2.ensures.stands c.args.share (c.in_ok-queue_handler.ensures.tables ∙ c.in_ok-tables.ensures ∙ ap (λ (f : Function). opened_tables f c.args.share) (sym c.in_ok-text.ensures ∙ ap function_of (sym c.in_ok-queue_handler.ensures.func))));
}
