use Rattle.std.proofs.Common.{◌≡◌, ◌<◌, ◌++◌, ◌∷◌, [], ◌%◌, ◌+◌, List, length, slice_index_or, take, refl, sym, subst, arith}
use Rattle.std.proofs.lemmas.List.{take_more}
use Rattle.std.proofs.lemmas.Nat.{mod_below}
use Rattle.nf_base.specs.declared.packet.Packet.{Packet}
use Rattle.lock_workers.specs.Dealing.{AreDealt}
use Rattle.lock_workers.proofs.Dealt.{dealt_none, dealt_more, long_take}
use Rattle.lock_workers.proofs.dealing.deal.Goals as goal

pub loop-place-init : goal.loop-place-init
loop-place-init c = dealt_none c.args.workers c.in_ok-own.own c.in_ok-own.ensures

pub loop-place-preserved : goal.loop-place-preserved
loop-place-preserved c =
    let ps = c.args.packets.now in
    let n = c.loop-place.place in
    let p = slice_index_or ps n c.index-packets-place.result in
    let own = c.loop-place.own in
    let w = p.id.port % c.args.workers in
    let lt : n < length ps = omega arith in
    let next : take (n + 1) ps ≡ take n ps ++ p ∷ [] = take_more ps n c.index-packets-place.result lt in
    let many = c.loop-place.invariant.many in
    let below = mod_below p.id.port c.args.workers c.requires.some in
    subst (λ (z : List Packet). AreDealt c.args.workers z c.deal_one.new.own) (sym next)
    (dealt_more c.args.workers (take n ps) p own c.deal_one.new.own w n c.loop-place.invariant refl (omega (arith, many, below)) (sym (long_take n ps lt)) c.in_ok-deal_one.ensures)
