-- What the declared types of the tree stand for.
use Rattle.std.specs.Prelude.{map}
use Rattle.nf_tree.specs.declared.handler.HandlerTree.{HandlerTree}
use Rattle.nf_tree.specs.declared.tree.Tree as declared_tree
use Rattle.nf_tree.specs.Tree.{Handler, Tree}
pub use Rattle.nf_tree.specs.BlockView.{expression_of, given_of, guards_of, ending_of, operation_of, question_of, creation_of, block_of}

-- a handler with its block
abbrev pub handler_of : HandlerTree → Handler
handler_of h = record {
  place = h.place;
  port = h.port;
  family = h.family;
  block = block_of h.block;
}

-- a whole text
abbrev pub tree_of : declared_tree.Tree → Tree
tree_of t = record { name = t.name; ports = t.ports; declarations = t.declarations; handlers = map handler_of t.handlers; end = t.end }
