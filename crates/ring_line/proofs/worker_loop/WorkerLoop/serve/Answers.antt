use Rattle.std.proofs.Common.{◌≡◌, List, [], ◌∷◌, ◌++◌, None, sym, ◌∙◌, subst}
use Rattle.rtrb.specs.Ring.{sent}
use Rattle.ring_line.specs.Packs.{Packed}
use Rattle.ring_line.specs.WorkerLoops.{Told}
use Rattle.ring_line.proofs.Telling.{told_more, told_past}
use Rattle.ring_line.proofs.worker_loop.WorkerLoop.serve.Goals as goal

pub returns-in-None-clause-told : goal.returns-in-None-clause-told
returns-in-None-clause-told g c = λ given packs t.
    let old = c.args.self.now in
    let running : old.queue_handler.halt ≡ None = sym c.halt.ensures ∙ c.in-None.is in
    subst (λ (ps : List Packed). Told given (packs ++ c.args.pack ∷ []) ps c.answer.new.self) (sym c.give.ensures.sent)
    (told_more given packs (sent old.ends.to) old.queue_handler c.answer.new.self c.args.pack c.answer.new.pack t running c.answer.ensures.func c.answer.ensures.fixed c.answer.ensures.packets c.answer.ensures.halt c.answer.ensures.came)

pub returns-in-Some-clause-told : goal.returns-in-Some-clause-told
returns-in-Some-clause-told g c = λ given packs t.
    let old = c.args.self.now in
    told_past given packs (sent old.ends.to) old.queue_handler c.args.pack c.in-Some.field-0 (sym c.halt.ensures ∙ c.in-Some.is) t
