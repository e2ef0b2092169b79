use Rattle.nf_tree.specs.View.{tree_of}
use Rattle.nf_syntax.proofs.First.{found, only, first}
use Rattle.nf_syntax.proofs.text.read.Goals as goal

pub returns-clause-found : goal.returns-clause-found
returns-clause-found c = found tree_of c.whole.result c.args.placed.now c.whole.ensures.exact

pub returns-clause-only : goal.returns-clause-only
returns-clause-only c = only tree_of c.whole.result c.args.placed.now c.whole.ensures.exact

pub returns-clause-first : goal.returns-clause-first
returns-clause-first c = first tree_of c.whole.result c.args.placed.now c.whole.ensures.exact
