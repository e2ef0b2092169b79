use Rattle.std.proofs.Common.{◌≡◌, ◌<◌, List, length}
use Rattle.nf_tree.specs.declared.tree.Label.{Label}
use Rattle.nf_syntax.specs.Machine.{Place, MoreLabelsAt, labels_at, run}
use Rattle.nf_syntax.proofs.list.labels.Given as goal

abbrev pub invariant-more : goal.invariant-more
invariant-more l = record {
  shorter : length l.rest < length l.fn.tokens;
  so_far : (k : List Label → Place) → run (labels_at k) l.fn.tokens ≡ run (MoreLabelsAt l.all k) l.rest;
}

abbrev pub decreases-more : goal.decreases-more
decreases-more l = length l.rest
