-- The sites of a text: where its statements touch the state, and the labels that each site names.
use Rattle.std.specs.Prelude.{ℕ, suc, List, [], ◌∷◌, ◌++◌, take, drop, Option, Some, None, slice_get}
use Rattle.std.specs.List.{flat_map}
use Rattle.nf_base.specs.declared.packet.Door.{Door}
use Rattle.nf_base.specs.declared.decl.ObjectId.{ObjectId}
use Rattle.nf_base.specs.declared.decl.ObjectId.TheVariants as object
use Rattle.nf_base.specs.declared.decl.MapDecl.{MapDecl}
use Rattle.nf_base.specs.declared.decl.ChainDecl.{ChainDecl}
use Rattle.nf_base.specs.declared.width.Width.TheVariants.{W16}
use Rattle.nf_base.specs.Text.{Expression, Number, Read, Index, Label, Column, Cell, Both, Given, Guard, Ending, FallsOff, Flood, Discard, Forward, Operation, Touch, Free, Set, Write, Store, Question, Get, Find, Test, Creation}
use Rattle.nf_base.specs.Chains.{maps_of}
use Rattle.nf_base.specs.Statements.{Statement, Ends, Does, Asks, Makes}
use Rattle.nf_sites.specs.declared.sort.Sort.{Sort}
use Rattle.nf_sites.specs.declared.sort.Sort.TheVariants as sort
use Rattle.nf_sites.specs.Named.{Named, numbered}
use Rattle.nf_sites.specs.ReadOrder.{by_first_read}

-- an object touched at a place of a port's text, and the labels that are given values there
pub record Site : Type 0 where
  pub object : ObjectId
  pub door : Door
  pub place : ℕ
  pub sort : Sort
  pub named : List (Named Given)

-- the first label of a map's key
abbrev pub first_in : Option MapDecl → ℕ
first_in None = 0
first_in (Some decl) = decl.first

-- the same, by the numbers of the chain and the map
abbrev pub first_label : List ChainDecl → ℕ → ℕ → ℕ
first_label decls chain m = first_in (slice_get (maps_of decls chain) m)

-- an access to a cell names the array's one label, the index, of 16 bits
abbrev pub cell_site : Door → Sort → ℕ → ℕ → Expression → Site
cell_site door way place array at = record {
  object = object.Array array;
  door = door;
  place = place;
  sort = way;
  named = numbered 0 (record { width = W16; value = at } ∷ []);
}

-- the cells that an expression reads, each before those in its index
abbrev pub expression_sites : Door → Expression → List Site
expression_sites door (Number n) = []
expression_sites door (Read field) = []
expression_sites door (Index var) = []
expression_sites door (Label var label) = []
expression_sites door (Column var column) = []
expression_sites door (Cell place array at) =
    cell_site door sort.Load place array at ∷ expression_sites door at
expression_sites door (Both operator left right) =
    expression_sites door left ++ expression_sites door right

-- the cells that values read
abbrev pub given_sites : Door → List Given → List Site
given_sites door gs = flat_map (λ (g : Given). expression_sites door g.value) gs

-- the cells that the values of a `find`'s labels read
abbrev pub guard_sites : Door → List Guard → List Site
guard_sites door gs = flat_map (λ (g : Guard). expression_sites door g.given.value) gs

-- a write to a cell stands before what its index and its value read
abbrev pub operation_sites : Door → Operation → List Site
operation_sites door (Touch var) = []
operation_sites door (Free var) = []
operation_sites door (Set field g) = expression_sites door g.value
operation_sites door (Write var column g) = expression_sites door g.value
operation_sites door (Store place array at g) =
    cell_site door sort.Store place array at
    ∷ (expression_sites door at ++ expression_sites door g.value)

-- a `get` names its map's parts
abbrev pub get_site : List ChainDecl → Door → ℕ → ℕ → ℕ → List Given → Site
get_site decls door place chain m key = record {
  object = object.Chain chain;
  door = door;
  place = place;
  sort = sort.Get m;
  named = numbered (first_label decls chain m) key;
}

-- the labels that a `find` asks for
abbrev pub guarded : List Guard → List (Named Given)
guarded [] = []
guarded (g ∷ gs) = record { label = g.label; given = g.given } ∷ guarded gs

-- a `find` names its guards
abbrev pub find_site : Door → ℕ → ℕ → List Guard → Site
find_site door place chain guards = record {
  object = object.Chain chain;
  door = door;
  place = place;
  sort = sort.Find;
  named = guarded guards;
}

-- a look-up, and then what its values read; a test reads alone
abbrev pub question_sites : List ChainDecl → Door → Question → List Site
question_sites decls door (Get place chain m key var) =
    get_site decls door place chain m key ∷ given_sites door key
question_sites decls door (Find place chain at guards var) =
    find_site door place chain guards ∷ (expression_sites door at ++ guard_sites door guards)
question_sites decls door (Test place comparison left right) =
    expression_sites door left ++ expression_sites door right

-- a `new` names all labels
abbrev pub new_site : Door → Creation → Site
new_site door n = record {
  object = object.Chain n.chain;
  door = door;
  place = n.place;
  sort = sort.New;
  named = numbered 0 n.labels;
}

-- its look-up of a map names the map's parts, with the values that the `new` gives them
abbrev pub name_site : Door → Creation → ℕ → MapDecl → Site
name_site door n m decl = record {
  object = object.Chain n.chain;
  door = door;
  place = n.place;
  sort = sort.Name m;
  named = numbered decl.first (take decl.parts (drop decl.first n.labels));
}

-- a look-up of each of some maps, which are numbered from m on
abbrev pub name_sites : Door → Creation → ℕ → List MapDecl → List Site
name_sites door n m [] = []
name_sites door n m (decl ∷ decls) = name_site door n m decl ∷ name_sites door n (suc m) decls

-- a `new`, its look-up of each map of its chain, and then what its values read, in text order
abbrev pub creation_sites : List ChainDecl → Door → Creation → List Site
creation_sites decls door n =
    new_site door n
    ∷ (name_sites door n 0 (maps_of decls n.chain) ++ given_sites door (by_first_read n.labels))

-- the cells that an end reads
abbrev pub ending_sites : Door → Ending → List Site
ending_sites door FallsOff = []
ending_sites door Flood = []
ending_sites door Discard = []
ending_sites door (Forward to) = expression_sites door to

-- the sites of a statement, in text order
abbrev pub statement_sites : List ChainDecl → Door → Statement → List Site
statement_sites decls door (Ends e) = ending_sites door e
statement_sites decls door (Does op) = operation_sites door op
statement_sites decls door (Asks q) = question_sites decls door q
statement_sites decls door (Makes n) = creation_sites decls door n
