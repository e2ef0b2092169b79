-- A function that was checked declares its objects.
use Rattle.std.proofs.Common.{◌≡◌, [], sym}
use Rattle.nf_base.specs.Text.{Function}
use Rattle.nf_tree.specs.Tree.{Tree}
use Rattle.nf_types.specs.Function.{function}
use Rattle.nf_types.specs.TextFaults.{faults}
use Rattle.declared_laws.specs.Declares.{DeclaresObjects}
use Rattle.declared_laws.proofs.Declared.{functions_declare}

pub declares : (tree : Tree) (f : Function) → (faults tree ≡ []) × (f ≡ function tree) → DeclaresObjects f
declares tree f answer = functions_declare tree f answer.0 (sym answer.1)
