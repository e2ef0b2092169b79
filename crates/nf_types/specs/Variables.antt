-- The variables in scope, the innermost first, and what they name.
use Rattle.std.specs.Prelude.{ℕ, List, [], ◌∷◌, Option, Some, None, if◌then◌else◌, length, map}
use Rattle.std.specs.Str.{bytes_eq}
use Rattle.nf_base.specs.declared.decl.ColumnDecl.{ColumnDecl}
use Rattle.nf_base.specs.declared.decl.ColumnId.{ColumnId}
use Rattle.nf_base.specs.declared.decl.ColumnId.TheVariants as ids
use Rattle.nf_base.specs.declared.decl.ChainDecl.{ChainDecl}
use Rattle.nf_types.specs.Names.{named}

-- a variable, and the chain of its entry, where that is declared
pub record Variable : Type 0 where
  pub name : List ℕ
  pub chain : Option ChainDecl

-- the names of variables
abbrev pub names_of : List Variable → List (List ℕ)
names_of xs = map (λ (x : Variable). x.name) xs

-- A variable's number is how many are in scope where it is bound.
abbrev pub variable_of : List Variable → List ℕ → ℕ
variable_of [] x = 0
variable_of (y ∷ ys) x = if bytes_eq x y.name then length ys else variable_of ys x

-- the chain of the entry of a variable in scope, where that is declared
abbrev pub variable_named : List Variable → List ℕ → Option (Option ChainDecl)
variable_named [] x = None
variable_named (y ∷ ys) x = if bytes_eq x y.name then Some y.chain else variable_named ys x

-- a free column that was found
abbrev pub as_column : Option (ℕ × ColumnDecl) → Option ColumnId
as_column None = None
as_column (Some found) = Some (ids.Column found.0)

-- a label that was found, or else a column
abbrev pub label_or : Option (ℕ × ColumnDecl) → Option ColumnId → Option ColumnId
label_or None column = column
label_or (Some found) column = Some (ids.Label found.0)

-- a label or a free column of a chain
abbrev pub column_named : ChainDecl → List ℕ → Option ColumnId
column_named d y =
    label_or (named (λ (c : ColumnDecl). c.name) y d.labels)
    (as_column (named (λ (c : ColumnDecl). c.name) y d.columns))
