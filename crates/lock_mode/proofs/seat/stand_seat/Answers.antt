use Rattle.std.proofs.Common.{◌≡◌, ◌++◌, ◌∷◌, [], ℕ, List, ap, sym, ◌∙◌, subst}
use Rattle.lock_core.specs.declared.call.Way.TheVariants as way
use Rattle.lock_core.specs.declared.call.Entry.{Entry}
use Rattle.lock_mode.specs.Alone.{IsAlone}
use Rattle.lock_mode.specs.Seats.{SeatState, IsSeat}
use Rattle.lock_mode.proofs.Making.{seat_stands}
use Rattle.lock_mode.proofs.seat.stand_seat.Goals as goal

pub invariant_of-result : goal.invariant_of-result
invariant_of-result g c =
    let f = g.J.Naming.function in
    let seats = g.J.Naming.seats in
    let seat = c.seat.inside.number in
    let seen = c.seat.inside.seat_reader.prefix in
    let calls = c.seat.inside.calls.calls in
    let packet = c.args.packet.now in
    let placed = c.args.placed.now in
    let seen_is : seen ≡ c.args.seat.seen = ap (λ (s : SeatState). s.seen) c.seat.view_is in
    let seat_is : seat ≡ c.args.seat.number = ap (λ (s : SeatState). s.number) c.seat.view_is in
    let alone : IsAlone f seen seat packet placed c.args.prefix =
    subst (λ (es : List Entry). IsAlone f es seat packet placed c.args.prefix) (sym seen_is)
    (subst (λ (n : ℕ). IsAlone f c.args.seat.seen n packet placed c.args.prefix) (sym seat_is) c.requires.stands) in
    let put : c.push.new.self.calls ≡ calls ++ record { way = way.Alone; place = placed.place; packet = packet; done = placed.done } ∷ [] = c.push.ensures.put in
    subst (λ (es : List Entry). IsSeat f seats seat es c.push.new.self.calls) (sym c.catch_up-seat_reader.ensures)
    (seat_stands f seats seat seen c.args.prefix packet placed calls c.push.new.self.calls alone c.seat.invariant put)
