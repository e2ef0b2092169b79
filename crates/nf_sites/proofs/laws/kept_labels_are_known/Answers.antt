use Rattle.nf_sites.proofs.laws.kept_labels_are_known.Goals as goal
use Rattle.nf_sites.proofs.KeptLabels.{kept_known, known_kept}

pub returns-clause-known : goal.returns-clause-known
returns-clause-known c = kept_known

pub returns-clause-kept : goal.returns-clause-kept
returns-clause-kept c = known_kept
