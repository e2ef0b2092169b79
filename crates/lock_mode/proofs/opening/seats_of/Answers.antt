use Rattle.std.proofs.Common.{◌≡◌, ◌+◌, ◌∷◌, [], ap, sym, ◌∙◌, subst, length, length-append, arith}
use Rattle.lock_mode.specs.Opening.{AreNew}
use Rattle.lock_mode.proofs.Opens.{new_more}
use Rattle.lock_mode.proofs.opening.seats_of.Goals as goal

pub loop-number-preserved : goal.loop-number-preserved
loop-number-preserved g c =
    let before = c.loop-number.invariant in
    let one = ap length c.in-Some.ensures.items in
    let long = length-append c.pop.new.self.items (c.in-Some.reader ∷ []) in (
      omega (arith, before.0, one, long),
      subst (AreNew (c.loop-number.number + 1)) (sym c.in_ok-push.ensures.items)
          (new_more c.loop-number.number c.loop-number.all.items c.new-seat.result before.1
          (record { number = c.new-seat.ensures.number; seen = c.new-seat.ensures.seen; calls = c.new-seat.ensures.calls; refused = c.new-seat.ensures.refused ∙ c.seat.ensures })),
    )
