use Rattle.nf_sites.proofs.cover.entries_keep_their_labels.Goals as goal
use Rattle.nf_sites.proofs.Runs.{labels_kept}

pub returns : goal.returns
returns c = labels_kept
