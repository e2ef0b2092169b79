use Rattle.std.proofs.Common.{◌≡◌, ◌<◌, List, length, map}
use Rattle.nf_tree.specs.Tree.{Expression}
use Rattle.nf_tree.specs.View.{expression_of}
use Rattle.nf_syntax.specs.Machine.{Place, MoreAt, values_at, run}
use Rattle.nf_syntax.proofs.list.key.Given as goal

abbrev pub invariant-more : goal.invariant-more
invariant-more l = record {
  shorter : length l.rest < length l.fn.tokens;
  so_far : (k : List Expression → Place) → run (values_at k) l.fn.tokens ≡ run (MoreAt (map expression_of l.all) k) l.rest;
}

abbrev pub decreases-more : goal.decreases-more
decreases-more l = length l.rest
