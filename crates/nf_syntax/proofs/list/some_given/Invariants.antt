use Rattle.std.proofs.Common.{◌≡◌, ◌<◌, List, length, map}
use Rattle.nf_tree.specs.Tree.{Given}
use Rattle.nf_tree.specs.View.{given_of}
use Rattle.nf_syntax.specs.Machine.{Place, MoreGivenAt, some_given_at, run}
use Rattle.nf_syntax.proofs.list.some_given.Given as goal

abbrev pub invariant-more : goal.invariant-more
invariant-more l = record {
  shorter : length l.rest < length l.fn.tokens;
  so_far : (k : List Given → Place) → run (some_given_at k) l.fn.tokens ≡ run (MoreGivenAt (map given_of l.all) k) l.rest;
}

abbrev pub decreases-more : goal.decreases-more
decreases-more l = length l.rest
