use Rattle.std.proofs.Common.{◌≡◌, Some, None, refl, ap}
use Rattle.ring_line.specs.Packs.{Packed}
use Rattle.ring_line.specs.Rows.{ended}
use Rattle.ring_line.proofs.rows.packs_are_told.Goals as goal

pub returns : goal.returns
returns c = record {
  answers = refl;
  packets = refl;
  no_packet = refl;
  told_last = (refl, refl);
  told_first = λ t. let e = t.0 in cc;
  told_wrongly = λ t. let e = t.1 in cc;
  not_told = λ t. cc;
  last = refl;
  not_last = λ t. let e : Some ended ≡ None = ap (λ (p : Packed). p.halt) t in cc;
  none_ended = λ t. cc;
}
