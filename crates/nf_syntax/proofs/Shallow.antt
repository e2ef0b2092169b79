-- The handlers of a tree are shallow by their type.
use Rattle.std.proofs.Common.{◌≤◌, slice_index_or}
use Rattle.std.proofs.lemmas.List.Elements.{All-map}
use Rattle.nf_tree.specs.declared.tree.Tree as declared_tree
use Rattle.nf_tree.specs.Depth.{depth}
use Rattle.nf_tree.specs.View.{handler_of, tree_of}
use Rattle.nf_syntax.specs.Language.{IsShallow}

pub shallow : (tree : declared_tree.Tree) → IsShallow (tree_of tree)
shallow tree = All-map (λ h. depth h.block ≤ 64) handler_of tree.handlers (λ k d within. (slice_index_or tree.handlers k d).shallow)
