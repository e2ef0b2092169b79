use Rattle.std.proofs.Common.{refl}
use Rattle.nf_laws.proofs.rows.queue_one_stops.Goals as goal

pub returns : goal.returns
returns c = λ share queue of. record {
  stops = rw (queue, of) refl;
  left_over = rw (queue, of) refl;
  no_step = rw (queue, of) refl;
  taken = refl;
  undivided = refl;
}
