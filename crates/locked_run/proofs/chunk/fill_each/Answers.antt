use Rattle.std.proofs.Common.{rules, ◌≡◌, ◌+◌, ◌*◌, List, length, slice_index_or, ap, sym, ◌∙◌, subst, arith}
use Rattle.locked_run.specs.declared.chunk.Chunk.{Chunk}
use Rattle.locked_run.specs.Handled.{joined}
use Rattle.locked_run.specs.Chunks.{IsFilled, AreFilled, chunk_at}
use Rattle.locked_run.proofs.Chunked.{all_filled}
use Rattle.locked_run.proofs.Rounding.{all_of}
use Rattle.locked_run.proofs.chunk.fill_each.Goals as goal

pub returns : goal.returns
returns g c =
    let all = joined c.args.batch.now c.args.order.now c.args.places.now in
    let ports = c.args.ports in
    let from = c.args.from in
    let size = c.args.size in
    let old = c.args.chunks.now.items in
    let new = c.for_each_mut.new.s in
    let e = ap length c.as_mut_slice.ensures.value in
    let same : length new ≡ length old = c.for_each_mut.auto.s ∙ e in
    subst (λ (cs : List Chunk). AreFilled ports all from size old cs) (sym (all_of c.args.chunks.now.len new _ (sym c.as_mut_slice.ensures.len ∙ sym c.for_each_mut.auto.s)))
    (all_filled ports all from size old new same (λ i d lt.
    let r = (c.for_each_mut.ensures i d (omega (arith, lt, e))).1 in
    let called = r.call in
    subst (λ (z : Chunk). IsFilled ports (chunk_at all (from + i * size) size) z (slice_index_or new i d)) (r.argument_is ∙ ap (λ (cs : List Chunk). slice_index_or cs i d) c.as_mut_slice.ensures.value)
    (subst (λ (z : Chunk). IsFilled ports (chunk_at all (from + i * size) size) r.argument.now z) r.left (search (rules, called)))))
