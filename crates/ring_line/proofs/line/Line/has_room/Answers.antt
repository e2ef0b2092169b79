use Rattle.std.proofs.Common.{◌≡◌, Some, slice_get, length, refl, ◌∙◌, arith}
use Rattle.std.proofs.lemmas.Option.{slice_get_read}
use Rattle.ring_line.proofs.Flights.{flights_none}
use Rattle.ring_line.proofs.line.Line.has_room.Goals as goal

pub returns-then-len-lt-ALL_IN_FLIGHT-clause-none : goal.returns-then-len-lt-ALL_IN_FLIGHT-clause-none
returns-then-len-lt-ALL_IN_FLIGHT-clause-none g c = λ none.
    let line = c.args.self.now in
    let q = c.args.queue in
    let queue_worker = c.item.result.now in
    let at : slice_get line.queue_workers q ≡ Some queue_worker = slice_get_read line.queue_workers (length line.queue_workers) q queue_worker refl c.requires c.item.ensures in
    let zero = flights_none line.queue_workers q queue_worker (line.flights ∙ none) at in
    c.has_room.ensures.all (omega (arith, zero))
