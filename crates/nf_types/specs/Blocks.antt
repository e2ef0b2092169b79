-- The checked blocks that blocks of the text stand for. What is not declared has the number 0, and no labels.
use Rattle.std.specs.Prelude.{ℕ, ◌+◌, List, [], ◌∷◌, Option, Some, None, length}
use Rattle.nf_base.specs.Text as text
use Rattle.nf_base.specs.Values.{field_width}
use Rattle.nf_base.specs.declared.width.Width.{Width}
use Rattle.nf_base.specs.declared.width.Width.TheVariants.{W64}
use Rattle.nf_base.specs.declared.decl.ColumnDecl.{ColumnDecl}
use Rattle.nf_base.specs.declared.decl.MapDecl.{MapDecl}
use Rattle.nf_base.specs.declared.decl.ChainDecl.{ChainDecl}
use Rattle.nf_base.specs.declared.decl.ArrayDecl.{ArrayDecl}
use Rattle.nf_tree.specs.declared.place.Name.{Name}
use Rattle.nf_tree.specs.Tree.{Expression, Given, Ending, FallsOff, Missing, Flood, Discard, Forward, Operation, Touch, Free, Set, Write, Store, Question, Get, Find, Test, Creation, Block, End, Do, Ask, Make}
use Rattle.nf_types.specs.declared.objects.Objects.{Objects}
use Rattle.nf_types.specs.Names.{named}
use Rattle.nf_types.specs.Variables.{Variable, variable_of, variable_named}
use Rattle.nf_types.specs.Expressions.{cells, number_of, array_named, value_of, given_to}
use Rattle.nf_types.specs.Statements.{parts_of, key_of, chain_named, chain_found, map_named, guards_in, asked, labels_in}
use Rattle.nf_types.specs.Places.{operation_places, question_places, creation_places, places}

-- the variables in the first block of a statement that binds one
abbrev pub bound : Objects → List Variable → (x c : Name) → List Variable
bound o xs x c = record { name = x.bytes; chain = chain_found (chain_named o.chains c.bytes) } ∷ xs

-- the variables where a question hits
abbrev pub bound_by : Objects → List Variable → Question → List Variable
bound_by o xs (Get at x c m key close) = bound o xs x c
bound_by o xs (Find at x c i gs) = bound o xs x c
bound_by o xs (Test l comparison r) = xs

-- the free column with this name, with its number and width
abbrev pub column_in : Option ChainDecl → List ℕ → Option (ℕ × ColumnDecl)
column_in None y = None
column_in (Some d) y = named (λ (c : ColumnDecl). c.name) y d.columns

-- the free column of a variable's entry
abbrev pub column_of_entry : Option (Option ChainDecl) → List ℕ → Option (ℕ × ColumnDecl)
column_of_entry None y = None
column_of_entry (Some chain) y = column_in chain y

-- the width of a column that was found, and of an array
abbrev pub width_in : Option (ℕ × ColumnDecl) → Width
width_in None = W64
width_in (Some found) = found.1.width

abbrev pub cell_width : Option (ℕ × ArrayDecl) → Width
cell_width None = W64
cell_width (Some found) = found.1.width

-- an end
abbrev pub checked_ending : ℕ → Objects → List Variable → Ending → text.Ending
checked_ending place o xs FallsOff = text.FallsOff
checked_ending place o xs Missing = text.FallsOff
checked_ending place o xs Flood = text.Flood
checked_ending place o xs Discard = text.Discard
checked_ending place o xs (Forward v) = text.Forward (value_of place o xs v)

-- a free column that is given a value
abbrev pub checked_write : ℕ → Objects → List Variable → (x : Name) → Option (ℕ × ColumnDecl) →
    Expression → text.Operation
checked_write place o xs x column v =
    text.Write (variable_of xs x.bytes) (number_of column) (given_to place o xs (width_in column) v)

-- a cell that is given a value; the array's name has the first place
abbrev pub checked_store : ℕ → Objects → List Variable → Option (ℕ × ArrayDecl) →
    (i v : Expression) → text.Operation
checked_store place o xs array i v =
    text.Store place (number_of array) (value_of (place + 1) o xs i)
    (given_to (place + 1 + cells i) o xs (cell_width array) v)

-- a statement with no block
abbrev pub checked_operation : ℕ → Objects → List Variable → Operation → text.Operation
checked_operation place o xs (Touch x) = text.Touch (variable_of xs x.bytes)
checked_operation place o xs (Free at x) = text.Free (variable_of xs x.bytes)
checked_operation place o xs (Set f at v) = text.Set f (given_to place o xs (field_width f) v)
checked_operation place o xs (Write x y v) =
    checked_write place o xs x (column_of_entry (variable_named xs x.bytes) y.bytes) v
checked_operation place o xs (Store a i v) =
    checked_store place o xs (array_named o.arrays a.bytes) i v

-- a `get` in a map that was found, of the chain with a number
abbrev pub checked_get_in : ℕ → Objects → List Variable → ℕ → ChainDecl → Option (ℕ × MapDecl) →
    List Expression → text.Question
checked_get_in place o xs chain d None key = text.Get place chain 0 [] (length xs)
checked_get_in place o xs chain d (Some found) key =
    text.Get place chain found.0 (key_of (place + 1) o xs (parts_of d found.1) key) (length xs)

-- a `get` in a chain that was found
abbrev pub checked_get : ℕ → Objects → List Variable → Option (ℕ × ChainDecl) →
    (m : Name) → List Expression → text.Question
checked_get place o xs None m key = text.Get place 0 0 [] (length xs)
checked_get place o xs (Some found) m key =
    checked_get_in place o xs found.0 found.1 (map_named found.1 m.bytes) key

-- a `find` in a chain that was found
abbrev pub checked_find : ℕ → Objects → List Variable → Option (ℕ × ChainDecl) → Expression →
    List Given → text.Question
checked_find place o xs None i gs = text.Find place 0 (value_of (place + 1) o xs i) [] (length xs)
checked_find place o xs (Some found) i gs =
    text.Find place found.0 (value_of (place + 1) o xs i)
    (guards_in (place + 1 + cells i) o xs found.1.labels gs) (length xs)

-- a statement with two blocks, without the blocks
abbrev pub checked_question : ℕ → Objects → List Variable → Question → text.Question
checked_question place o xs (Get at x c m key close) =
    checked_get place o xs (chain_named o.chains c.bytes) m key
checked_question place o xs (Find at x c i gs) =
    checked_find place o xs (chain_named o.chains c.bytes) i (asked gs)
checked_question place o xs (Test l comparison r) =
    text.Test place comparison (value_of (place + 1) o xs l) (value_of (place + 1 + cells l) o xs r)

-- a `new`, without its blocks
abbrev pub checked_creation : ℕ → Objects → List Variable → Creation → text.Creation
checked_creation place o xs n = record {
  place = place;
  chain = number_of (chain_named o.chains n.chain.bytes);
  labels = labels_in (place + 1) o xs (chain_named o.chains n.chain.bytes) n.given;
  var = length xs;
}

-- A block: over these chains and arrays, with these variables in scope, the innermost first. The places of a
-- text are numbered in its order; the first argument counts those before the block. A variable is in scope in
-- the first block of its statement alone.
abbrev pub checked_block : ℕ → Objects → List Variable → Block → text.Block
checked_block place o xs (End e) = text.End (checked_ending place o xs e)
checked_block place o xs (Do op next) =
    text.Do (checked_operation place o xs op)
    (checked_block (place + operation_places op) o xs next)
checked_block place o xs (Ask q hit miss next) =
    text.Ask (checked_question place o xs q)
    (checked_block (place + question_places q) o (bound_by o xs q) hit)
    (checked_block (place + question_places q + places hit) o xs miss)
    (checked_block (place + question_places q + places hit + places miss) o xs next)
checked_block place o xs (Make n made taken full next) =
    text.Make (checked_creation place o xs n)
    (checked_block (place + creation_places n) o (bound o xs n.variable n.chain) made)
    (checked_block (place + creation_places n + places made) o xs taken)
    (checked_block (place + creation_places n + places made + places taken) o xs full)
    (checked_block (place + creation_places n + places made + places taken + places full) o xs next)
