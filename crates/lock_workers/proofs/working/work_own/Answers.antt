use Rattle.std.proofs.Common.{◌≡◌, ◌<◌, ◌+◌, ◌∷◌, ◌++◌, [], ℕ, List, length, Some, slice_get, refl, ap, sym, ◌∙◌, subst, arith, length-append}
use Rattle.std.proofs.lemmas.Option.{slice_get_read}
use Rattle.nf_base.specs.declared.packet.Packet.{Packet}
use Rattle.lock_core.specs.declared.call.Call.{Call}
use Rattle.lock_workers.specs.Working.{packets_in, AreAtPlaces}
use Rattle.lock_workers.proofs.Joined.{at_none, at_more}
use Rattle.lock_workers.proofs.working.work_own.Goals as goal

pub returns-in-Err : goal.returns-in-Err
returns-in-Err g c = record {
  number = c.reserve.ensures.number;
  called = subst (λ (cs : List Call). AreAtPlaces c.args.packets.now c.args.places.now (packets_in cs)) (sym (c.reserve.ensures.calls ∙ c.requires.none)) (at_none c.args.packets.now c.args.places.now);
}

pub loop-k-init : goal.loop-k-init
loop-k-init g c =
    let none = c.reserve.ensures.calls ∙ c.requires.none in
    record {
      called = subst (λ (cs : List Call). AreAtPlaces c.args.packets.now c.args.places.now (packets_in cs)) (sym none) (at_none c.args.packets.now c.args.places.now);
      long = ap (λ (cs : List Call). length (packets_in cs)) none;
      number = c.reserve.ensures.number;
    }

pub loop-k-preserved : goal.loop-k-preserved
loop-k-preserved g c =
    let packets = c.args.packets.now in
    let places = c.args.places.now in
    let k = c.loop-k.k in
    let place = c.item.result.now in
    let p = c.index-packets-item.result in
    let inv = c.loop-k.invariant in
    let these = packets_in c.loop-k.seat.calls in
    let put : packets_in c.work_one.new.seat.calls ≡ these ++ p ∷ [] = c.in-Ok-work_one.ensures.ok in
    let lt : k < length places = omega (arith, c.len-k-end.ensures, c.loop-k-test.true) in
    let at : slice_get places k ≡ Some place = slice_get_read places (length places) k place refl lt c.item.ensures in
    let within : place < length packets = subst (λ (n : ℕ). n < length packets) (sym c.item.ensures) (c.requires.of.within k place lt) in
    record {
      called = subst (AreAtPlaces packets places) (sym put)
          (at_more packets places these p place inv.called (ap (slice_get places) inv.long ∙ at) (slice_get_read packets (length packets) place p refl within c.index-packets-item.is));
      long = ap (λ (qs : List Packet). length qs) put ∙ length-append these (p ∷ []) ∙ ap (λ (n : ℕ). n + 1) inv.long;
      number = c.work_one.ensures.number ∙ inv.number;
    }

pub returns-in-Err-work_one : goal.returns-in-Err-work_one
returns-in-Err-work_one g c =
    let inv = c.loop-k.invariant in
    record {
      number = c.work_one.ensures.number ∙ inv.number;
      called = subst (λ (cs : List Call). AreAtPlaces c.args.packets.now c.args.places.now (packets_in cs)) (sym c.in-Err-work_one.ensures.err) inv.called;
    }

pub returns : goal.returns
returns g c = record { number = c.loop-k.invariant.number; called = c.loop-k.invariant.called }
