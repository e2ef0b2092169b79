-- what is listed, and what waits, are the whole
use Rattle.std.proofs.Common.{◌≡◌, ◌++◌, length, map}
use Rattle.nf_base.specs.Laid.{block_seen}
use Rattle.nf_base.specs.Statements.{statements}
use Rattle.nf_base.specs.View.{block_of}
use Rattle.path_walk.specs.Order.{head_seen, waiting}
use Rattle.path_walk.proofs.listing.all_statements.Given as goal

abbrev pub invariant-loop-one : goal.invariant-loop-one
invariant-loop-one l =
    map head_seen l.all.items ++ waiting (map block_seen l.left.items) ≡ statements (block_of l.block)

abbrev pub decreases-loop-one : goal.decreases-loop-one
decreases-loop-one l = length (waiting (map block_seen l.left.items))
