use Rattle.nf_base.specs.View as checked
use Rattle.nf_tree.specs.View as syntax
use Rattle.nf_types.proofs.Counted.{within}
use Rattle.nf_types.proofs.handler.handler.Goals as goal

pub invariant_of-result : goal.invariant_of-result
invariant_of-result c = record {
  within = within c.args.before c.args.objects.now (syntax.block_of c.args.text.now.block)
      (checked.block_of c.in_ok-block.block) c.in_ok-block.ensures.made c.requires.small
      c.args.text.now.shallow;
}
