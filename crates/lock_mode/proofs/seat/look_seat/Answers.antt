use Rattle.std.proofs.Common.{◌≡◌, ◌++◌, ◌∷◌, [], ℕ, length, subst}
use Rattle.nf_base.specs.declared.done.Done.{Done}
use Rattle.lock_core.specs.declared.call.Way.TheVariants as way
use Rattle.lock_log.specs.Notes.{LogState}
use Rattle.lock_mode.specs.Looks.{IfDone}
use Rattle.lock_mode.proofs.Making.{seat_looked, needs_ap, refused_ap}
use Rattle.lock_mode.proofs.seat.look_seat.Goals as goal

pub invariant_of-result : goal.invariant_of-result
invariant_of-result g c =
    let looked = c.look_by-seat_reader.result.1 in
    let prefix = c.look_by-seat_reader.result.0.prefix in
    let calls = c.seat.inside.calls.calls in
    let put = c.add_look.new.calls.calls in
    let packet = c.args.packet.now in
    let done : IfDone looked (λ (d : Done). put ≡ calls ++ record { way = way.Look; place = length prefix; packet = packet; done = d } ∷ []) =
    subst (λ (k : ℕ). IfDone looked (λ (d : Done). put ≡ calls ++ record { way = way.Look; place = k; packet = packet; done = d } ∷ [])) c.len.ensures.length c.add_look.ensures.done in
    seat_looked looked g.J.Naming.function g.J.Naming.seats c.seat.inside.number c.seat.inside.seat_reader.prefix prefix packet calls put c.look_by-seat_reader.ensures.seen c.seat.invariant c.look_by-seat_reader.ensures.done done
    (needs_ap looked (λ (v : LogState). v.calls) c.add_look.new.calls c.seat.inside.calls c.add_look.ensures.needs)
    (refused_ap looked (λ (v : LogState). v.calls) c.add_look.new.calls c.seat.inside.calls c.add_look.ensures.refused)
