use Rattle.std.proofs.Common.{◌≡◌, ◌<◌, List, length}
use Rattle.nf_tree.specs.declared.place.Literal.{Literal}
use Rattle.nf_syntax.specs.Machine.{Place, MoreNumbersAt, numbers_at, run}
use Rattle.nf_syntax.proofs.list.numbers.Given as goal

abbrev pub invariant-more : goal.invariant-more
invariant-more l = record {
  shorter : length l.rest < length l.fn.tokens;
  so_far : (k : List Literal → Place) → run (numbers_at k) l.fn.tokens ≡ run (MoreNumbersAt l.all k) l.rest;
}

abbrev pub decreases-more : goal.decreases-more
decreases-more l = length l.rest
