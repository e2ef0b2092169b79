use Rattle.nf_sites.proofs.OrderedRows.{labels_in_any_order}
use Rattle.nf_sites.proofs.rows.labels_are_given_in_any_order.Goals as goal

pub returns : goal.returns
returns c = labels_in_any_order
