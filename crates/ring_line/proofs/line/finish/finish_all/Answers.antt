use Rattle.std.proofs.Common.{◌++◌, ◌∷◌, [], length, refl, sym, ap, ◌∙◌, subst, append_assoc, arith}
use Rattle.ring_line.specs.Lines.{AreFinished}
use Rattle.ring_line.proofs.Lining.{finished_none, all_finished}
use Rattle.ring_line.proofs.line.finish.finish_all.Goals as goal

pub loop-w-init : goal.loop-w-init
loop-w-init g c = record {
  moved = ([], refl, subst (AreFinished []) (sym c.requires.none) finished_none);
  left = omega arith;
  long = ap length c.requires.none;
  room = refl;
}

pub loop-w-preserved : goal.loop-w-preserved
loop-w-preserved g c =
    let inv = c.loop-w.invariant in
    let m = c.finish_first.ensures.moved in
    record {
      moved = (
        inv.moved.0 ++ m.first ∷ [],
        inv.moved.1 ∙ ap (λ ps. inv.moved.0 ++ ps) m.left ∙ sym (append_assoc inv.moved.0 (m.first ∷ []) c.finish_first.new.queue_workers),
        m.more inv.moved.0 inv.moved.2,
      );
      left = omega (arith, inv.left, c.finish_first.ensures.left);
      long = omega (arith, inv.long, c.finish_first.ensures.long);
      room = c.finish_first.ensures.capacity ∙ inv.room;
    }

pub returns : goal.returns
returns g c =
    let inv = c.loop-w.invariant in
    all_finished c.args.queue_workers inv.moved.0 c.loop-w.queue_workers c.loop-w.parts.items inv.moved.1 (omega (arith, inv.left, c.loop-w-test.false, c.len-w-end.ensures)) inv.moved.2
