-- Which queue owns an index, where a location is at home, and what one queue sees of a state.
use Rattle.std.specs.Prelude.{◌≡◌, ◌≤◌, ◌+◌, ℕ, suc, Bool, true, ◌==◌, List, [], ◌∷◌, Option, Some, None, slice_get}
use Rattle.nf_base.specs.declared.decl.ChainDecl.{ChainDecl}
use Rattle.nf_base.specs.declared.decl.MapDecl.{MapDecl}
use Rattle.nf_base.specs.declared.decl.ObjectId.{ObjectId}
use Rattle.nf_base.specs.declared.decl.ObjectId.TheVariants as object
use Rattle.nf_base.specs.declared.state.Entry.{Entry}
use Rattle.nf_base.specs.declared.state.Chain.{Chain}
use Rattle.nf_base.specs.declared.state.State.{State}
use Rattle.nf_base.specs.Text.{Block, Creation, Expression, Given, Store, Function}
use Rattle.nf_base.specs.Statements.{Does, Makes}
use Rattle.nf_base.specs.Chains.{maps_of, lifetime_of, key_in}
use Rattle.nf_base.specs.Objects.{is_written}
use Rattle.nf_base.specs.Events.{Event, Tested, LookedUp, Found, AskedNew, EntryUsed, EntryFreed, CellRead, CellWritten}
use Rattle.nf_base.specs.Record.{NewEntry, made_of}
use Rattle.nf_base.specs.Locations.{Location, object_of, Numbers, EntryNo, KeyOf, CellAt, numbers_after}
use Rattle.nf_base.specs.Shares.{mix}
use Rattle.nf_laws.specs.Objects.{Stands}

-- The queue that owns an index of a chain; the bucket where a location is at home, and the queue of
-- a bucket; which objects are written, homes matter of these alone; whether the entry of a number
-- may have been made at an index, and whether a cell may have been given a value.
pub record Homes : Type 0 where
  pub owner : (chain index : ℕ) → ℕ
  pub home : Location → ℕ
  pub at : (bucket : ℕ) → ℕ
  pub written : ObjectId → Bool
  pub kept : (chain index no : ℕ) → Bool
  pub stored : (array index : ℕ) → Bool

-- the queue where a location is at home
abbrev pub queue_home : Homes → Location → ℕ
queue_home h x = h.at (h.home x)

-- an entry that is made may have been made there
abbrev pub TellsMade : Homes → Numbers → Option NewEntry → Type 0
TellsMade h ns None = Unit {0}
TellsMade h ns (Some made) = h.kept made.chain made.index (ns.made made.chain) ≡ true

-- a cell that is given a value may have been given one
abbrev pub TellsStored : Homes → Event → Type 0
TellsStored h (Tested place holds) = Unit {0}
TellsStored h (LookedUp place chain m key hit) = Unit {0}
TellsStored h (Found place chain hit) = Unit {0}
TellsStored h (AskedNew place chain labels result) = Unit {0}
TellsStored h (EntryUsed chain i changed) = Unit {0}
TellsStored h (EntryFreed chain i) = Unit {0}
TellsStored h (CellRead place array i) = Unit {0}
TellsStored h (CellWritten place array i changed) = h.stored array i ≡ true

-- both, of each event
abbrev pub AllTold : Homes → Numbers → List Event → Type 0
AllTold h ns [] = Unit {0}
AllTold h ns (e ∷ es) =
    (TellsMade h ns (made_of e) × TellsStored h e) × AllTold h (numbers_after ns e) es

-- an entry that was made, in front of others
abbrev pub made_in_front : Option NewEntry → List NewEntry → List NewEntry
made_in_front None rest = rest
made_in_front (Some made) rest = made ∷ rest

-- the entries that a record made, in order
abbrev pub entries_made : List Event → List NewEntry
entries_made [] = []
entries_made (e ∷ es) = made_in_front (made_of e) (entries_made es)

-- each entry was made at an index that a queue owns
abbrev pub MadeOwn : (ℕ → ℕ → ℕ) → ℕ → List NewEntry → Type 0
MadeOwn owner w [] = Unit {0}
MadeOwn owner w (made ∷ more) = (owner made.chain made.index ≡ w) × MadeOwn owner w more

-- each location of a written object is at home at a bucket
abbrev pub AllAt : Homes → ℕ → List Location → Type 0
AllAt h w [] = Unit {0}
AllAt h w (x ∷ xs) = (h.written (object_of x) ≡ true → h.home x ≡ w) × AllAt h w xs

-- each choice is an index that a queue owns, of whichever chain
abbrev pub AllOwn : (ℕ → ℕ → ℕ) → ℕ → List ℕ → Type 0
AllOwn owner w [] = Unit {0}
AllOwn owner w (i ∷ is) = ((chain : ℕ) → owner chain i ≡ w) × AllOwn owner w is

-- whether a queue owns an index of a chain
abbrev pub owned : (ℕ → ℕ → ℕ) → ℕ → ℕ → ℕ → Bool
owned owner w chain i = owner chain i == w

-- at an index of another queue there is no entry
abbrev pub unseen : ℕ → Option Entry
unseen i = None

-- whether a cell of an array is at home at a queue, by the queue of each location
abbrev pub cell_owned : (Location → ℕ) → ℕ → ℕ → ℕ → Bool
cell_owned home w array i = home (CellAt array i) == w

-- what a queue sees of chains
abbrev pub seen_chains : (ℕ → ℕ → Bool) → List Chain → List Chain
seen_chains own [] = []
seen_chains own (chain ∷ chains) =
    record chain { slots = mix (own 0) unseen chain.slots } ∷ seen_chains (λ k. own (suc k)) chains

-- what it sees of arrays
abbrev pub seen_arrays : (ℕ → ℕ → Bool) → (ℕ → ℕ → ℕ) → List (List ℕ) → List (List ℕ)
seen_arrays own opened [] = []
seen_arrays own opened (cells ∷ arrays) =
    mix (own 0) (opened 0) cells ∷ seen_arrays (λ k. own (suc k)) (λ k. opened (suc k)) arrays

-- what a queue sees of a state: the entries at its indices, the cells at home there, and of the
-- other cells the opening values
abbrev pub seen : Homes → (ℕ → ℕ → ℕ) → ℕ → State → State
seen h opened w s = record {
  chains = seen_chains (owned h.owner w) s.chains;
  arrays = seen_arrays (cell_owned (queue_home h) w) opened s.arrays;
}

-- What holds of an entry: its chain is written, it is not past its lifetime, its keys are at home
-- where its number is, at the queue that owns its index, and it may have been made there.
pub record Holds (h : Homes) (decls : List ChainDecl) (time : ℕ) (ns : Numbers) (k i : ℕ)
    (e : Entry) : Type 0 where
  pub made : h.written (object.Chain k) ≡ true
  pub within : time ≤ e.stamp + lifetime_of decls k
  pub keys : (m : ℕ) (decl : MapDecl) → slice_get (maps_of decls k) m ≡ Some decl →
      h.home (KeyOf k m (key_in decl e.labels)) ≡ h.home (EntryNo k (ns.entry_no k i))
  pub number : h.at (h.home (EntryNo k (ns.entry_no k i))) ≡ h.owner k i
  pub kept : h.kept k i (ns.entry_no k i) ≡ true

-- what a block makes entries of and stores to is taken for written
pub record IsTold (written : ObjectId → Bool) (b : Block) : Type 0 where
  pub news : (n : Creation) → Stands (Makes n) b → written (object.Chain n.chain) ≡ true
  pub stores : (place array : ℕ) (at : Expression) (g : Given) →
      Stands (Does (Store place array at g)) b → written (object.Array array) ≡ true

-- what a function's text writes is taken for written
abbrev pub KnowsWritten : Homes → Function → Type 0
KnowsWritten h f = (o : ObjectId) → is_written f o ≡ true → h.written o ≡ true
