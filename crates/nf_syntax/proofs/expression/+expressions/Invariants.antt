use Rattle.std.proofs.Common.{◌≡◌, ◌+◌, ◌*◌, ◌<◌, length}
use Rattle.nf_tree.specs.Tree.{Expression}
use Rattle.nf_tree.specs.View.{expression_of}
use Rattle.nf_syntax.specs.Machine.{Place, FactorsAt, TermsAt, product_at, sum_at, run}
use Rattle.nf_syntax.specs.Reads.{Counts}
use Rattle.nf_syntax.proofs.expression.+expressions.Given as goal

abbrev pub decreases-sum : goal.decreases-sum
decreases-sum l = 6 * l.room + 5

abbrev pub decreases-product : goal.decreases-product
decreases-product l = 6 * l.room + 4

abbrev pub decreases-atom : goal.decreases-atom
decreases-atom l = 6 * l.room + 3

abbrev pub decreases-behind_name : goal.decreases-behind_name
decreases-behind_name l = 6 * l.room + 2

abbrev pub decreases-cell : goal.decreases-cell
decreases-cell l = 6 * l.room + 1

abbrev pub decreases-group : goal.decreases-group
decreases-group l = 6 * l.room + 1

abbrev pub invariant-product-factors : goal.invariant-product-factors
invariant-product-factors l = record {
  shorter : length l.rest < length l.fn.tokens;
  so_far : (k : Expression → Place) → run (product_at l.room l.before k) l.fn.tokens ≡ run (FactorsAt l.room l.before (expression_of l.left) k) l.rest;
  counted : Counts l.before (expression_of l.left) l.operands;
}

abbrev pub decreases-product-factors : goal.decreases-product-factors
decreases-product-factors l = length l.rest

abbrev pub invariant-sum-terms : goal.invariant-sum-terms
invariant-sum-terms l = record {
  shorter : length l.rest < length l.fn.tokens;
  so_far : (k : Expression → Place) → run (sum_at l.room l.before k) l.fn.tokens ≡ run (TermsAt l.room l.before (expression_of l.left) k) l.rest;
  counted : Counts l.before (expression_of l.left) l.operands;
}

abbrev pub decreases-sum-terms : goal.decreases-sum-terms
decreases-sum-terms l = length l.rest
