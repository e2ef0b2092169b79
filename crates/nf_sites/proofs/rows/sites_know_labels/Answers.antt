use Rattle.std.proofs.Common.{refl}
use Rattle.nf_sites.proofs.rows.sites_know_labels.Goals as goal

pub returns : goal.returns
returns c = record {
  policer_by_destination = refl;
  policer_keeps = refl;
  nat_by_both_ends = refl;
  nat_keeps = refl;
  bridge_keeps = refl;
  hidden_look_up = refl;
  hidden_keeps_none = refl;
  array_by_index = refl;
  array_keeps = refl;
}
