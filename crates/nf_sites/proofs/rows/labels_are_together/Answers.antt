use Rattle.std.proofs.Common.{refl}
use Rattle.nf_sites.proofs.rows.labels_are_together.Goals as goal

pub returns : goal.returns
returns c = record {
  each_new_by_itself = refl;
  every_new = refl;
  of_the_width = refl;
  of_a_field = refl;
  array_alone = refl;
  last_by_first = refl;
  first_decides = refl;
  named_alone = refl;
  no_sum = refl;
}
