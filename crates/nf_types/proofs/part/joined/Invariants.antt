-- what is left and the block behind it are the whole
use Rattle.std.proofs.Common.{◌≡◌, vec_len}
use Rattle.nf_base.specs.Text.{End, FallsOff}
use Rattle.nf_base.specs.View.{block_of}
use Rattle.nf_types.specs.Parts.{laid}
use Rattle.nf_types.proofs.part.joined.Given as goal

abbrev pub invariant-loop-last : goal.invariant-loop-last
invariant-loop-last l = laid l.parts.items (block_of l.block) ≡ laid l.initial.parts.items (End FallsOff)

abbrev pub decreases-loop-last : goal.decreases-loop-last
decreases-loop-last l = vec_len l.parts
