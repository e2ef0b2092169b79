use Rattle.std.proofs.Common.{refl}
use Rattle.nf_sites.proofs.rows.sorts_are_told.Goals as goal

pub returns : goal.returns
returns c = record {
  look_ups = refl;
  binders = refl;
  cells = refl;
  of_a_get = refl;
  of_a_find = refl;
  of_a_new = refl;
  of_a_read = refl;
  of_a_write = refl;
  of_a_test = refl;
  of_a_use = refl;
}
