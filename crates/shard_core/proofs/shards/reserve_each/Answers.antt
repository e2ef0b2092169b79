use Rattle.std.proofs.Common.{◌≡◌, length, Some, slice_get, refl, ◌∙◌, arith}
use Rattle.std.proofs.lemmas.Option.{slice_get_read}
use Rattle.std.proofs.lemmas.List.{length-set}
use Rattle.shard_core.proofs.Reserving.{reserved_same, reserved_room, reserved_grows}
use Rattle.shard_core.proofs.shards.reserve_each.Goals as goal

pub returns-in-Err-clause-grows : goal.returns-in-Err-clause-grows
returns-in-Err-clause-grows c = λ m have.
    let before = c.item_mut.result.now in
    let after = c.reserve.new.self in
    let ws = c.loop-w.workers in
    let w = c.loop-w.w in
    let test = c.loop-w-test.true in
    let count = c.loop-w.invariant.count in
    let at : slice_get ws w ≡ Some before = slice_get_read ws (length ws) w before refl (omega (arith, test, count)) c.item_mut.ensures.value in
    reserved_grows m w ws before after (c.loop-w.invariant.grows m have) at c.reserve.ensures.grows

pub loop-w-preserved : goal.loop-w-preserved
loop-w-preserved c =
    let before = c.item_mut.result.now in
    let after = c.reserve.new.self in
    let ws = c.loop-w.workers in
    let w = c.loop-w.w in
    let test = c.loop-w-test.true in
    let count = c.loop-w.invariant.count in
    let at : slice_get ws w ≡ Some before = slice_get_read ws (length ws) w before refl (omega (arith, test, count)) c.item_mut.ensures.value in
    record {
      same = reserved_same c.args.workers.now ws w before after c.loop-w.invariant.same at c.reserve.ensures.same;
      room = reserved_room c.args.n w ws after c.loop-w.invariant.room c.in-Ok.ensures.room;
      grows = λ m have. reserved_grows m w ws before after (c.loop-w.invariant.grows m have) at c.reserve.ensures.grows;
      count = length-set ws w after ∙ count;
    }
