use Rattle.std.proofs.Common.{◌∷◌, [], length, sym, ap, ◌∙◌, subst, arith}
use Rattle.std.proofs.lemmas.List.{length-append}
use Rattle.nf_base.specs.Functions.{function_of}
use Rattle.vig_tables.specs.TablesState.{opened_tables}
use Rattle.ring_line.specs.QueueWorkers.{all_in_flight}
use Rattle.ring_line.specs.Lines.{AreStarted}
use Rattle.nf_base.specs.declared.share.Share.{Share}
use Rattle.ring_line.proofs.Shares.{opened_first, opened_rest}
use Rattle.ring_line.proofs.Flights.{flights_more}
use Rattle.ring_line.proofs.Lining.{started_more}
use Rattle.ring_line.proofs.line.start.start_all.Goals as goal

pub loop-queue-preserved : goal.loop-queue-preserved
loop-queue-preserved g c =
    let inv = c.loop-queue.invariant in
    let f = function_of c.args.func.now in
    let queue_workers = c.loop-queue.queue_workers.items in
    let own = opened_first f c.args.workers c.loop-queue.queue c.loop-queue.opened c.remove_first.new.self c.remove_first.result c.in-Ok.tables c.remove_first.ensures c.in-Ok.is inv.opened in
    record {
      started = subst (λ ps. AreStarted f c.args.workers ps) (sym c.push_reserved.ensures.items)
          (started_more f c.args.workers queue_workers c.in-Ok-start.queue_worker c.share-share.result inv.started (ap (λ (s : Share). s.queue) c.share-share.ensures ∙ own.queue_is ∙ sym inv.long) (ap (λ (s : Share). s.of) c.share-share.ensures ∙ own.of) c.in-Ok-start.ensures.stands);
      opened = opened_rest f c.args.workers c.loop-queue.queue c.loop-queue.opened c.remove_first.new.self c.remove_first.result c.remove_first.ensures inv.opened;
      long = omega (arith, ap length c.push_reserved.ensures.items, length-append queue_workers (c.in-Ok-start.queue_worker ∷ []), inv.long);
      room = omega (arith, inv.room, c.push_reserved.ensures.capacity);
      none = let e = ap all_in_flight c.push_reserved.ensures.items in let f = flights_more queue_workers c.in-Ok-start.queue_worker in omega (arith, e, f, inv.none, c.in-Ok-start.ensures.none);
    }

pub start-requires-after_bounds : goal.start-requires-after_bounds
start-requires-after_bounds g c κs within =
    let f = function_of c.args.func.now in
    let own = opened_first f c.args.workers c.loop-queue.queue c.loop-queue.opened c.remove_first.new.self c.remove_first.result c.in-Ok.tables c.remove_first.ensures c.in-Ok.is c.loop-queue.invariant.opened in
    own.opened ∙ ap (opened_tables f) (sym c.share-share.ensures)
