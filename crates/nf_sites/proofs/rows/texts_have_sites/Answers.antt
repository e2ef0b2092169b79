use Rattle.std.proofs.Common.{refl}
use Rattle.nf_sites.proofs.rows.texts_have_sites.Goals as goal

pub returns : goal.returns
returns c = record {
  feasible_only = refl;
  every_kind_in_order = refl;
}
