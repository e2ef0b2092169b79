-- The names of a function's chains and arrays.
use Rattle.std.specs.Prelude.{ℕ, List, [], Option, Some, None, slice_get}
use Rattle.nf_base.specs.declared.decl.ObjectId.{ObjectId}
use Rattle.nf_base.specs.declared.decl.ObjectId.TheVariants as object
use Rattle.nf_base.specs.declared.decl.ChainDecl.{ChainDecl}
use Rattle.nf_base.specs.declared.decl.ArrayDecl.{ArrayDecl}
use Rattle.nf_base.specs.Text.{Function}

-- the name of a declared chain
abbrev pub chain_name : Option ChainDecl → List ℕ
chain_name None = []
chain_name (Some decl) = decl.name

-- that of a declared array
abbrev pub array_name : Option ArrayDecl → List ℕ
array_name None = []
array_name (Some decl) = decl.name

-- the name of a chain or an array
abbrev pub object_name : Function → ObjectId → List ℕ
object_name f (object.Chain chain) = chain_name (slice_get f.chains chain)
object_name f (object.Array array) = array_name (slice_get f.arrays array)
