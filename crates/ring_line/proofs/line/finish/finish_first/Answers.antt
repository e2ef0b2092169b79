use Rattle.std.proofs.Common.{◌++◌, ◌∷◌, [], sym, subst}
use Rattle.ring_line.specs.Lines.{AreFinished}
use Rattle.ring_line.proofs.Lining.{finished_more}
use Rattle.ring_line.proofs.line.finish.finish_first.Goals as goal

pub returns-clause-moved : goal.returns-clause-moved
returns-clause-moved g c = record {
  first = c.remove_first-queue_worker.result;
  left = c.remove_first-queue_worker.ensures;
  more = λ done h. subst (λ ts. AreFinished (done ++ c.remove_first-queue_worker.result ∷ []) ts) (sym c.push_reserved.ensures.items)
      (finished_more done c.args.parts.now.items c.remove_first-queue_worker.result c.finish.result h c.finish.ensures);
}
