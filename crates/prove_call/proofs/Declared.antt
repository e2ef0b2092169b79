-- A function under a name declares each object that it comes to.
use Rattle.std.proofs.Common.{ℕ, List}
use Rattle.nf_base.specs.Text.{Function}
use Rattle.nf_files.specs.Told.{Told}
use Rattle.declared_laws.specs.Declares.{DeclaresObjects}
use Rattle.declared_laws.proofs.Declared.{functions_declare}
use Rattle.call_base.specs.Source.{IsFunctionUnder}

pub declares : (told : Told) (name : List ℕ) (f : Function) → IsFunctionUnder told name f → DeclaresObjects f
declares told name f is =
    let text = is.is_function in
    functions_declare text.tree f text.of_tree.faultless text.of_tree.stands_for
