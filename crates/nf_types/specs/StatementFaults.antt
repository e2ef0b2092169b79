-- What is wrong with the fronts of statements.
use Rattle.std.specs.Prelude.{ℕ, ◌==◌, Bool, true, not, ◌&&◌, ◌||◌, List, [], ◌++◌, Option, Some, None, length, map}
use Rattle.std.specs.List.{list_any}
use Rattle.nf_base.specs.declared.packet.Family.{Family}
use Rattle.nf_base.specs.declared.packet.Field.{Field}
use Rattle.nf_base.specs.declared.decl.ColumnDecl.{ColumnDecl}
use Rattle.nf_base.specs.declared.decl.ColumnId.{ColumnId}
use Rattle.nf_base.specs.declared.decl.ColumnId.TheVariants as ids
use Rattle.nf_base.specs.declared.decl.MapDecl.{MapDecl}
use Rattle.nf_base.specs.declared.decl.ChainDecl.{ChainDecl}
use Rattle.nf_base.specs.declared.decl.ArrayDecl.{ArrayDecl}
use Rattle.nf_tokens.specs.declared.token.Place.{Place}
use Rattle.nf_tree.specs.declared.place.Name.{Name}
use Rattle.nf_tree.specs.Tree as tree
use Rattle.nf_types.specs.declared.fault.TypingKind.TheVariants.{Unknown, Twice, Amount, FreeColumn, ReadOnly, NotInScope}
use Rattle.nf_types.specs.declared.fault.Fault.{Fault}
use Rattle.nf_base.specs.Values.{is_settable}
use Rattle.nf_types.specs.Names.{is_among}
use Rattle.nf_types.specs.Faults.{fault_if, each_behind}
use Rattle.nf_types.specs.Fields.{field_faults}
use Rattle.nf_types.specs.declared.objects.Objects.{Objects}
use Rattle.nf_types.specs.Variables.{Variable, names_of, variable_named, column_named}
use Rattle.nf_types.specs.Expressions.{array_named, array_faults_at, value_faults, each_value_faults, scope_faults}
use Rattle.nf_types.specs.Statements.{parts_of, chain_named, map_named, asked}

-- a new variable differs from every chain and array, and from every variable in scope
abbrev pub binding_faults : Objects → List Variable → Name → List Fault
binding_faults o xs x =
    fault_if (is_among x.bytes (map (λ (d : ChainDecl). d.name) o.chains)
    || is_among x.bytes (map (λ (d : ArrayDecl). d.name) o.arrays)
    || is_among x.bytes (names_of xs)) Twice x.place

-- a variable that is used is in scope
abbrev pub use_faults : List Variable → Name → List Fault
use_faults xs x = scope_faults (variable_named xs x.bytes) x

-- the name of a map, and as many values as its key has parts
abbrev pub map_faults_at : Option (ℕ × MapDecl) → Name → List Fault
map_faults_at None m = fault_if true Unknown m.place
map_faults_at (Some found) m = []

-- as many values as the key has parts
abbrev pub amount_faults : ChainDecl → Option (ℕ × MapDecl) → ℕ → (close : Place) → List Fault
amount_faults d None n close = []
amount_faults d (Some found) n close =
    fault_if (not (n == length (parts_of d found.1))) Amount close

-- where a `get` looks, in the chain that was found
abbrev pub look_in_faults : Family → Objects → List Variable → Option (ℕ × ChainDecl) →
    (c m : Name) → List tree.Expression → (close : Place) → List Fault
look_in_faults family o xs None c m key close =
    fault_if true Unknown c.place ++ each_value_faults family o xs key
look_in_faults family o xs (Some found) c m key close =
    map_faults_at (map_named found.1 m.bytes) m
    ++ (each_value_faults family o xs key
    ++ amount_faults found.1 (map_named found.1 m.bytes) (length key) close)

-- where a `get` looks
abbrev pub look_up_faults : Family → Objects → List Variable → (c m : Name) →
    List tree.Expression → (close : Place) → List Fault
look_up_faults family o xs c m key close =
    look_in_faults family o xs (chain_named o.chains c.bytes) c m key close

-- whether a name is given a value
abbrev pub is_given : List tree.Given → List ℕ → Bool
is_given gs x = is_among x (map (λ (g : tree.Given). g.name.bytes) gs)

-- whether a column has a name
abbrev pub is_column_in : List ColumnDecl → List ℕ → Bool
is_column_in cs x = is_among x (map (λ (c : ColumnDecl). c.name) cs)

-- what a `new` or a `where` gives: each name is a label's, and stands once
unfoldable pub given_faults : Family → Objects → List Variable → ChainDecl → List tree.Given →
    tree.Given → List Fault
given_faults family o xs d before g =
    fault_if (not (is_column_in d.labels g.name.bytes) && not (is_column_in d.columns g.name.bytes))
    Unknown g.name.place
    ++ (fault_if (is_given before g.name.bytes) Twice g.name.place
    ++ (fault_if (not (is_column_in d.labels g.name.bytes) && is_column_in d.columns g.name.bytes)
    FreeColumn g.name.place
    ++ value_faults family o xs g.value))

-- whether some label is given no value
abbrev pub lacks_label : List tree.Given → List ColumnDecl → Bool
lacks_label gs labels = list_any (λ (l : ColumnDecl). not (is_given gs l.name)) labels

-- what a `new` gives, in the chain that was found
abbrev pub make_in_faults : Family → Objects → List Variable → Option (ℕ × ChainDecl) → Name →
    List tree.Given → (close : Place) → List Fault
make_in_faults family o xs None c gs close = fault_if true Unknown c.place
make_in_faults family o xs (Some found) c gs close =
    each_behind (given_faults family o xs found.1) [] gs
    ++ fault_if (lacks_label gs found.1.labels) Amount close

-- what a `new` makes
abbrev pub making_faults : Family → Objects → List Variable → Name → List tree.Given →
    (close : Place) → List Fault
making_faults family o xs c gs close =
    make_in_faults family o xs (chain_named o.chains c.bytes) c gs close

-- what a `find` looks for, in the chain that was found
abbrev pub find_in_faults : Family → Objects → List Variable → Option (ℕ × ChainDecl) → Name →
    tree.Expression → List tree.Given → List Fault
find_in_faults family o xs None c i gs = fault_if true Unknown c.place ++ value_faults family o xs i
find_in_faults family o xs (Some found) c i gs =
    value_faults family o xs i ++ each_behind (given_faults family o xs found.1) [] gs

-- what a `find` looks for
abbrev pub finding_faults : Family → Objects → List Variable → Name → tree.Expression → tree.Guards →
    List Fault
finding_faults family o xs c i gs =
    find_in_faults family o xs (chain_named o.chains c.bytes) c i (asked gs)

-- a field that is set is none of the time, the length and the protocol, and one of the handler's packets
abbrev pub set_faults : Family → Objects → List Variable → Field → (at : Place) → tree.Expression →
    List Fault
set_faults family o xs f at v =
    fault_if (not (is_settable f)) ReadOnly at
    ++ (field_faults family f at ++ value_faults family o xs v)

-- a column that is written is a free one
abbrev pub written_faults : Option ColumnId → Name → List Fault
written_faults None y = fault_if true Unknown y.place
written_faults (Some (ids.Label i)) y = fault_if true ReadOnly y.place
written_faults (Some (ids.Column i)) y = []

-- a column that is written, in the chain that is known
abbrev pub written_in_faults : Option ChainDecl → Name → List Fault
written_in_faults None y = []
written_in_faults (Some d) y = written_faults (column_named d y.bytes) y

-- a column of a variable's entry that is written
abbrev pub write_at_faults : Option (Option ChainDecl) → (x y : Name) → List Fault
write_at_faults None x y = fault_if true NotInScope x.place
write_at_faults (Some chain) x y = written_in_faults chain y

-- a free column that is given a value
abbrev pub write_faults : Family → Objects → List Variable → (x y : Name) → tree.Expression → List Fault
write_faults family o xs x y v =
    write_at_faults (variable_named xs x.bytes) x y ++ value_faults family o xs v

-- a cell that is given a value
abbrev pub store_faults : Family → Objects → List Variable → (a : Name) → (i v : tree.Expression) →
    List Fault
store_faults family o xs a i v =
    array_faults_at (array_named o.arrays a.bytes) a
    ++ (value_faults family o xs i ++ value_faults family o xs v)
