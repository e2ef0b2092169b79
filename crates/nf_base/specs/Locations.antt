-- The locations that a packet touches, by the numbers of the entries that they belong to.
use Rattle.std.specs.Prelude.{ℕ, suc, ◌==◌, ◌&&◌, List, [], ◌∷◌, ◌++◌, Option, Some, None, if◌then◌else◌}
use Rattle.nf_base.specs.declared.decl.ChainDecl.{ChainDecl}
use Rattle.nf_base.specs.declared.decl.MapDecl.{MapDecl}
use Rattle.nf_base.specs.declared.decl.ObjectId.{ObjectId}
use Rattle.nf_base.specs.declared.decl.ObjectId.TheVariants as object
use Rattle.nf_base.specs.Chains.{maps_of, key_in}
use Rattle.nf_base.specs.Operations.{NewResult, Made, Taken, Full, Illegal, Stopped}
use Rattle.nf_base.specs.Events.{Event, Tested, LookedUp, Found, AskedNew, EntryUsed, EntryFreed, CellRead, CellWritten}
use Rattle.nf_base.specs.Record.{NewEntry, made_of}

-- The k-th entry made in a chain, as generation counters tell entries apart; a key of a map of a
-- chain; a cell of an array.
pub data Location : Type 0 where
  EntryNo : (chain k : ℕ) → Location
  KeyOf : (chain m : ℕ) (key : List ℕ) → Location
  CellAt : (array index : ℕ) → Location

-- the object that a location belongs to
abbrev pub object_of : Location → ObjectId
object_of (EntryNo chain k) = object.Chain chain
object_of (KeyOf chain m key) = object.Chain chain
object_of (CellAt array index) = object.Array array

-- beside a run: of each chain, how many entries were made so far, and the number of the one last made
-- at an index
pub record Numbers : Type 0 where
  pub made : (chain : ℕ) → ℕ
  pub entry_no : (chain index : ℕ) → ℕ

-- before the first packet
abbrev pub no_numbers : Numbers
no_numbers = record { made = λ chain. 0; entry_no = λ chain index. 0 }

-- the numbers after an entry was made at an index of a chain
abbrev pub one_more : ℕ → ℕ → Numbers → Numbers
one_more chain i ns = record {
  made = λ other. if other == chain then suc (ns.made other) else ns.made other;
  entry_no = λ other j. if other == chain && j == i then ns.made other else ns.entry_no other j;
}

-- the numbers after an entry was made, if one was
abbrev pub after_made : Option NewEntry → Numbers → Numbers
after_made None ns = ns
after_made (Some made) ns = one_more made.chain made.index ns

-- the numbers after an event
abbrev pub numbers_after : Numbers → Event → Numbers
numbers_after ns e = after_made (made_of e) ns

-- the numbers after a record
abbrev pub all_numbers : Numbers → List Event → Numbers
all_numbers ns [] = ns
all_numbers ns (e ∷ es) = all_numbers (numbers_after ns e) es

-- the keys that labels give some maps, by the location of a key in the map of a number
abbrev pub keys_from : (ℕ → List ℕ → Location) → List MapDecl → List ℕ → List Location
keys_from key [] labels = []
keys_from key (decl ∷ decls) labels =
    key 0 (key_in decl labels) ∷ keys_from (λ m. key (suc m)) decls labels

-- the keys that labels give the maps of a chain
abbrev pub keys_of : List ChainDecl → ℕ → List ℕ → List Location
keys_of decls chain labels = keys_from (KeyOf chain) (maps_of decls chain) labels

-- the entry at an index of a chain
abbrev pub entry_if : Numbers → ℕ → Option ℕ → List Location
entry_if ns chain None = []
entry_if ns chain (Some i) = EntryNo chain (ns.entry_no chain i) ∷ []

-- the entry that a `new` makes
abbrev pub entry_made : Numbers → ℕ → NewResult → List Location
entry_made ns chain (Made i) = EntryNo chain (ns.made chain) ∷ []
entry_made ns chain Taken = []
entry_made ns chain Full = []
entry_made ns chain Illegal = []
entry_made ns chain Stopped = []

-- what an event touches; a `new` touches the keys of its labels, whatever it comes to
abbrev pub locations_of : List ChainDecl → Numbers → Event → List Location
locations_of decls ns (Tested place holds) = []
locations_of decls ns (LookedUp place chain m key hit) = KeyOf chain m key ∷ entry_if ns chain hit
locations_of decls ns (Found place chain hit) = entry_if ns chain hit
locations_of decls ns (AskedNew place chain labels result) =
    entry_made ns chain result ++ keys_of decls chain labels
locations_of decls ns (EntryUsed chain i changed) = entry_if ns chain (Some i)
locations_of decls ns (EntryFreed chain i) = entry_if ns chain (Some i)
locations_of decls ns (CellRead place array i) = CellAt array i ∷ []
locations_of decls ns (CellWritten place array i changed) = CellAt array i ∷ []

-- what a record touches
abbrev pub locations : List ChainDecl → Numbers → List Event → List Location
locations decls ns [] = []
locations decls ns (e ∷ es) = locations_of decls ns e ++ locations decls (numbers_after ns e) es
