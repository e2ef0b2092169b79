-- The values of a handler's text: what they stand for, and what is wrong with them.
use Rattle.std.specs.Prelude.{ℕ, ◌+◌, true, List, [], ◌∷◌, ◌++◌, Option, Some, None}
use Rattle.nf_base.specs.Text.{Expression, Number, Read, Index, Label, Column, Cell, Both, Given}
use Rattle.nf_base.specs.declared.width.Width.{Width}
use Rattle.nf_base.specs.declared.packet.Family.{Family}
use Rattle.nf_base.specs.declared.expr.Operator.{Operator}
use Rattle.nf_base.specs.declared.expr.Operator.TheVariants as operators
use Rattle.nf_base.specs.declared.decl.ColumnId.{ColumnId}
use Rattle.nf_base.specs.declared.decl.ColumnId.TheVariants as ids
use Rattle.nf_base.specs.declared.decl.ChainDecl.{ChainDecl}
use Rattle.nf_base.specs.declared.decl.ArrayDecl.{ArrayDecl}
use Rattle.nf_tree.specs.declared.place.Name.{Name}
use Rattle.nf_tree.specs.declared.tree.SumOperator.{SumOperator}
use Rattle.nf_tree.specs.declared.tree.SumOperator.TheVariants as sums
use Rattle.nf_tree.specs.declared.tree.ProductOperator.{ProductOperator}
use Rattle.nf_tree.specs.declared.tree.ProductOperator.TheVariants as products
use Rattle.nf_tree.specs.Tree as tree
use Rattle.nf_types.specs.declared.fault.TypingKind.TheVariants.{Unknown, NotInScope}
use Rattle.nf_types.specs.declared.fault.Fault.{Fault}
use Rattle.nf_types.specs.Names.{named}
use Rattle.nf_types.specs.Faults.{fault_if}
use Rattle.nf_types.specs.Fields.{field_faults}
use Rattle.nf_types.specs.declared.objects.Objects.{Objects}
use Rattle.nf_types.specs.Variables.{Variable, variable_of, variable_named, column_named}

-- how many cells of arrays a value reads
abbrev pub cells : tree.Expression → ℕ
cells (tree.Number n) = 0
cells (tree.Read field at) = 0
cells (tree.Column x y) = 0
cells (tree.Index x) = 0
cells (tree.Cell a i) = 1 + cells i
cells (tree.Group e close) = cells e
cells (tree.Sum operator l r) = cells l + cells r
cells (tree.Product operator l r) = cells l + cells r

-- the array with a name, and its number
abbrev pub array_named : List ArrayDecl → List ℕ → Option (ℕ × ArrayDecl)
array_named ds a = named (λ (d : ArrayDecl). d.name) a ds

-- the number of what was found; 0 where nothing was
abbrev pub number_of : {A : Type 0} → Option (ℕ × A) → ℕ
number_of None = 0
number_of (Some found) = found.0

-- the operators of sums and of products
abbrev pub sum_operator : SumOperator → Operator
sum_operator sums.Plus = operators.Plus
sum_operator sums.Minus = operators.Minus

abbrev pub product_operator : ProductOperator → Operator
product_operator products.Times = operators.Times
product_operator products.Over = operators.Over
product_operator products.Modulo = operators.Modulo
product_operator products.And = operators.And

-- the column that was found, of a variable with a number
abbrev pub column_value : ℕ → Option ColumnId → Expression
column_value var None = Number 0
column_value var (Some (ids.Label i)) = Label var i
column_value var (Some (ids.Column i)) = Column var i

-- the label or column of a chain with a name
abbrev pub column_in : Option ChainDecl → List ℕ → Option ColumnId
column_in None y = None
column_in (Some d) y = column_named d y

-- the label or column of a variable's entry
abbrev pub column_of_variable : Option (Option ChainDecl) → List ℕ → Option ColumnId
column_of_variable None y = None
column_of_variable (Some chain) y = column_in chain y

-- A value, of which the first argument counts the places before it in the text. Parentheses only group.
abbrev pub value_of : ℕ → Objects → List Variable → tree.Expression → Expression
value_of place o xs (tree.Number n) = Number n.value
value_of place o xs (tree.Read field at) = Read field
value_of place o xs (tree.Column x y) =
    column_value (variable_of xs x.bytes) (column_of_variable (variable_named xs x.bytes) y.bytes)
value_of place o xs (tree.Index x) = Index (variable_of xs x.bytes)
value_of place o xs (tree.Cell a i) =
    Cell place (number_of (array_named o.arrays a.bytes)) (value_of (place + 1) o xs i)
value_of place o xs (tree.Group e close) = value_of place o xs e
value_of place o xs (tree.Sum operator l r) =
    Both (sum_operator operator) (value_of place o xs l) (value_of (place + cells l) o xs r)
value_of place o xs (tree.Product operator l r) =
    Both (product_operator operator) (value_of place o xs l) (value_of (place + cells l) o xs r)

-- a name of an array
abbrev pub array_faults_at : Option (ℕ × ArrayDecl) → Name → List Fault
array_faults_at None a = fault_if true Unknown a.place
array_faults_at (Some found) a = []

-- a label or column of a chain; nothing is known of a chain that is not declared
abbrev pub found_faults : Option ColumnId → Name → List Fault
found_faults None y = fault_if true Unknown y.place
found_faults (Some id) y = []

abbrev pub column_faults_in : Option ChainDecl → Name → List Fault
column_faults_in None y = []
column_faults_in (Some d) y = found_faults (column_named d y.bytes) y

-- a variable and what is read of its entry
abbrev pub read_faults : Option (Option ChainDecl) → (x y : Name) → List Fault
read_faults None x y = fault_if true NotInScope x.place
read_faults (Some chain) x y = column_faults_in chain y

-- a variable alone
abbrev pub scope_faults : Option (Option ChainDecl) → Name → List Fault
scope_faults None x = fault_if true NotInScope x.place
scope_faults (Some chain) x = []

-- a value in a handler for a version of IP
abbrev pub value_faults : Family → Objects → List Variable → tree.Expression → List Fault
value_faults family o xs (tree.Number n) = []
value_faults family o xs (tree.Read field at) = field_faults family field at
value_faults family o xs (tree.Column x y) = read_faults (variable_named xs x.bytes) x y
value_faults family o xs (tree.Index x) = scope_faults (variable_named xs x.bytes) x
value_faults family o xs (tree.Cell a i) =
    array_faults_at (array_named o.arrays a.bytes) a ++ value_faults family o xs i
value_faults family o xs (tree.Group e close) = value_faults family o xs e
value_faults family o xs (tree.Sum operator l r) =
    value_faults family o xs l ++ value_faults family o xs r
value_faults family o xs (tree.Product operator l r) =
    value_faults family o xs l ++ value_faults family o xs r

-- some values, one by one
abbrev pub each_value_faults : Family → Objects → List Variable → List tree.Expression → List Fault
each_value_faults family o xs [] = []
each_value_faults family o xs (v ∷ vs) =
    value_faults family o xs v ++ each_value_faults family o xs vs

-- a value of a width
abbrev pub given_to : ℕ → Objects → List Variable → Width → tree.Expression → Given
given_to place o xs w v = record { width = w; value = value_of place o xs v }
