use Rattle.nf_base.specs.Functions.{function_of}
use Rattle.nf_tree.specs.View.{tree_of}
use Rattle.nf_types.proofs.Listed.{lists}
use Rattle.nf_types.proofs.Numbered.{has_places}
use Rattle.nf_types.proofs.function.check.Goals as goal

pub returns-in-Ok-clause-objects : goal.returns-in-Ok-clause-objects
returns-in-Ok-clause-objects c = lists (function_of c.in-Ok.func) (tree_of c.args.tree.now) c.in-Ok.ensures.1

pub returns-in-Ok-clause-places : goal.returns-in-Ok-clause-places
returns-in-Ok-clause-places c =
    has_places (function_of c.in-Ok.func) (tree_of c.args.tree.now) c.in-Ok.ensures.0 c.in-Ok.ensures.1
