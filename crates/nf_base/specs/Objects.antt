-- Objects, chains and arrays, and which of them a function's text writes.
use Rattle.std.specs.Prelude.{◌≡◌, ℕ, Bool, false, ◌==◌, length, Option, Some, None}
use Rattle.std.specs.List.{list_any, filter_map, range_with_len}
use Rattle.nf_base.specs.declared.decl.ObjectId.{ObjectId}
use Rattle.nf_base.specs.declared.decl.ObjectId.TheVariants as object
use Rattle.nf_base.specs.Text.{Operation, Touch, Free, Set, Write, Store, Function}
use Rattle.nf_base.specs.Doors.{blocks}
use Rattle.nf_base.specs.Statements.{Statement, Ends, Does, Asks, Makes, statements}

-- whether a statement makes entries of a chain
abbrev pub makes_in : ℕ → Statement → Bool
makes_in chain (Ends e) = false
makes_in chain (Does op) = false
makes_in chain (Asks q) = false
makes_in chain (Makes n) = n.chain == chain

-- whether an operation gives a cell of an array a value
abbrev pub is_store_in : ℕ → Operation → Bool
is_store_in array (Touch var) = false
is_store_in array (Free var) = false
is_store_in array (Set field g) = false
is_store_in array (Write var column g) = false
is_store_in array (Store place a at g) = a == array

-- the same of a statement
abbrev pub stores_in : ℕ → Statement → Bool
stores_in array (Ends e) = false
stores_in array (Does op) = is_store_in array op
stores_in array (Asks q) = false
stores_in array (Makes n) = false

-- whether a statement makes entries of a chain, or gives cells of an array values
abbrev pub writes : ObjectId → Statement → Bool
writes (object.Chain chain) s = makes_in chain s
writes (object.Array array) s = stores_in array s

-- whether a function's text writes an object, at any depth
abbrev pub is_written : Function → ObjectId → Bool
is_written f object = list_any (λ block. list_any (writes object) (statements block)) (blocks f)

-- the number of a chain among the chains
abbrev pub chain_number : ObjectId → Option ℕ
chain_number (object.Chain chain) = Some chain
chain_number (object.Array array) = None

-- the number of an array among the arrays
abbrev pub array_number : ObjectId → Option ℕ
array_number (object.Chain chain) = None
array_number (object.Array array) = Some array

-- a function's objects are its chains and its arrays, each once, and each kind in its order
pub record ListsObjects (f : Function) : Type 0 where
  pub chains : filter_map chain_number f.objects ≡ range_with_len 0 (length f.chains)
  pub arrays : filter_map array_number f.objects ≡ range_with_len 0 (length f.arrays)
