-- what was made, in front of what comes of the rest, comes to what the whole does
use Rattle.std.proofs.Common.{◌≡◌, ◌+◌, ◌*◌, ◌≤◌, max}
use Rattle.nf_tree.specs.declared.block.Block.{size-Block}
use Rattle.nf_tree.specs.View as syntax
use Rattle.nf_types.specs.Blocks.{checked_block}
use Rattle.nf_types.specs.Places.{places}
use Rattle.nf_types.specs.Parts.{laid, checked_rest, rest_places, rest_seen, rest_size}
use Rattle.nf_types.specs.View.{variables_of}
use Rattle.nf_types.proofs.block.+blocks.Given as goal

abbrev pub decreases-boxed : goal.decreases-boxed
decreases-boxed l = 4 * size-Block l.text.now + 2

abbrev pub decreases-two : goal.decreases-two
decreases-two l = 4 * max (size-Block l.first.now) (size-Block l.second.now) + 3

abbrev pub decreases-statement : goal.decreases-statement
decreases-statement l = 4 * size-Block l.text.now

abbrev pub decreases-block : goal.decreases-block
decreases-block l = 4 * size-Block l.text.now + 1

abbrev pub invariant-block-loop-rest : goal.invariant-block-loop-rest
invariant-block-loop-rest l = record {
  left : rest_size l.rest ≤ size-Block l.text + 1;
  further : l.place ≤ l.at;
  counted : l.at + rest_places (rest_seen l.rest) ≡ l.place + places (syntax.block_of l.text);
  whole : laid l.parts.items (checked_rest l.at l.objects (variables_of l.scope) (rest_seen l.rest))
      ≡ checked_block l.place l.objects (variables_of l.scope) (syntax.block_of l.text);
}

abbrev pub decreases-block-loop-rest : goal.decreases-block-loop-rest
decreases-block-loop-rest l = rest_size l.rest
