use Rattle.std.proofs.Common.{arith}
use Rattle.std.proofs.lemmas.Option.{slice_get_within}
use Rattle.lock_workers.proofs.sharing.are_done.Goals as goal

pub returns : goal.returns
returns g c = λ w places s at seat.
    let lt = slice_get_within c.args.seats.now w s seat in
    c.loop-w.invariant w places s (omega (arith, lt)) at seat
