-- The union of the states of shares, each of which has handled the packets of its own queue: the
-- state of the whole.
use Rattle.std.specs.Prelude.{◌≡◌, ◌≢◌, ℕ, zero, suc, ◌<◌, ◌≤◌, ◌%◌, ◌==◌, max, All, List, [], length, map, get_or, Option, Some, if◌then◌else◌, slice_get}
use Rattle.nf_base.specs.declared.decl.ArrayDecl.{ArrayDecl}
use Rattle.nf_base.specs.declared.decl.ChainDecl.{ChainDecl}
use Rattle.nf_base.specs.declared.decl.MapDecl.{MapDecl}
use Rattle.nf_base.specs.declared.share.Share.{Share}
use Rattle.nf_base.specs.declared.state.Chain.{Chain}
use Rattle.nf_base.specs.declared.state.Entry.{Entry}
use Rattle.nf_base.specs.declared.state.State.{State}
use Rattle.nf_base.specs.Chains.{chain_at, array_at, maps_of, entry_at, key_in}
use Rattle.nf_base.specs.Context.{or_zero}
use Rattle.nf_base.specs.Shares.{owns}
use Rattle.nf_base.specs.Step.{expired_state}
use Rattle.nf_base.specs.Text.{Function}
use Rattle.vig_tables.specs.TablesState.{TablesState}

-- of so many shares the one that owns an index, in every chain
abbrev pub owner_among : ℕ → ℕ → ℕ → ℕ
owner_among shares k i = i % shares

-- the entry that its owner's state has at an index of a chain, where it is not past its lifetime
abbrev pub united_entry : (ℕ → ℕ → ℕ) → Function → ℕ → (ℕ → State) → ℕ → ℕ → Option Entry
united_entry owner f time parts k i =
    entry_at (chain_at (expired_state f time (parts (owner k i))).chains k).slots i

-- the greatest stamp that one of so many states has of a chain
abbrev pub greatest_of : ℕ → (ℕ → State) → ℕ → ℕ
greatest_of k parts zero = 0
greatest_of k parts (suc n) = max (chain_at (parts n).chains k).greatest (greatest_of k parts n)

-- a cell of an array of a state
abbrev pub cell_at : State → ℕ → ℕ → ℕ
cell_at s a i = or_zero (slice_get (array_at s.arrays a) i)

-- of so many copies of a cell the one that differs from the opening value, or that value
abbrev pub merged_cell : ℕ → ℕ → ℕ → (ℕ → State) → ℕ → ℕ
merged_cell a i opened parts zero = opened
merged_cell a i opened parts (suc n) =
    if cell_at (parts n) a i == opened then merged_cell a i opened parts n
    else cell_at (parts n) a i

-- One chain of the union.
pub record IsUnionChain (owner : ℕ → ℕ → ℕ) (f : Function) (time shares : ℕ) (parts : ℕ → State)
    (k : ℕ) (decl : ChainDecl) (chain : Chain) : Type 0 where
  pub size : length chain.slots ≡ decl.size
  pub entries :
      (i : ℕ) → i < decl.size → entry_at chain.slots i ≡ united_entry owner f time parts k i
  pub greatest : chain.greatest ≡ greatest_of k parts shares

-- One array of the union.
pub record IsUnionArray (shares : ℕ) (parts : ℕ → State) (a : ℕ) (decl : ArrayDecl)
    (cells : List ℕ) : Type 0 where
  pub size : length cells ≡ length decl.cells
  pub each :
      (i opened : ℕ) → slice_get decl.cells i ≡ Some opened
      → slice_get cells i ≡ Some (merged_cell a i opened parts shares)

-- A state is the union of the states of the shares 0 to below so many, expired at a time.
pub record IsUnion (owner : ℕ → ℕ → ℕ) (f : Function) (time shares : ℕ) (parts : ℕ → State)
    (s : State) : Type 0 where
  pub chain_count : length s.chains ≡ length f.chains
  pub array_count : length s.arrays ≡ length f.arrays
  pub chains :
      (k : ℕ) (decl : ChainDecl) (chain : Chain)
      → slice_get f.chains k ≡ Some decl → slice_get s.chains k ≡ Some chain
      → IsUnionChain owner f time shares parts k decl chain
  pub arrays :
      (a : ℕ) (decl : ArrayDecl) (cells : List ℕ)
      → slice_get f.arrays a ≡ Some decl → slice_get s.arrays a ≡ Some cells
      → IsUnionArray shares parts a decl cells

-- no key of a map is that of two entries of the union
abbrev pub HasNamesApart : (ℕ → ℕ → ℕ) → Function → ℕ → (ℕ → State) → Type 0
HasNamesApart owner f time parts =
    (k n i j : ℕ) (m : MapDecl) (a b : Entry) → slice_get (maps_of f.chains k) n ≡ Some m
    → united_entry owner f time parts k i ≡ Some a → united_entry owner f time parts k j ≡ Some b
    → key_in m a.labels ≡ key_in m b.labels → i ≡ j

-- a state that remembers nothing, which stands past the last one
abbrev pub no_state : State
no_state = record { chains = []; arrays = [] }

-- the state of each of some tables, by number
abbrev pub state_in : List TablesState → ℕ → State
state_in tables w = get_or (map (λ (t : TablesState). t.state) tables) w no_state

-- some tables are of these chains
abbrev pub AreOf : List ChainDecl → List TablesState → Type 0
AreOf decls tables = All (λ (t : TablesState). t.decls ≡ decls) tables

-- of so many shares an index's owner is the one whose own it is
abbrev pub OwnersOwn : Type 0
OwnersOwn = (share : Share) (k i : ℕ) → owns share i ≡ (owner_among share.of k i == share.queue)

-- two families of states that agree up to so many have one union
abbrev pub UnionsAreOne : Type 0
UnionsAreOne =
    (owner : ℕ → ℕ → ℕ) (f : Function) (time shares : ℕ) (parts others : ℕ → State) (s t : State)
    → ((k i : ℕ) → owner k i < shares) → ((w : ℕ) → w < shares → parts w ≡ others w)
    → IsUnion owner f time shares parts s → IsUnion owner f time shares others t → s ≡ t

-- the one copy of a cell that was changed is the union's; where none was, it is as it opened
pub record CellsAreTheChangedOnes : Type 0 where
  pub changed :
      (a i opened shares w : ℕ) (parts : ℕ → State) → w < shares
      → ((v : ℕ) → v < shares → v ≢ w → cell_at (parts v) a i ≡ opened)
      → merged_cell a i opened parts shares ≡ cell_at (parts w) a i
  pub unchanged :
      (a i opened shares : ℕ) (parts : ℕ → State)
      → ((v : ℕ) → v < shares → cell_at (parts v) a i ≡ opened)
      → merged_cell a i opened parts shares ≡ opened

-- the greatest stamp of the union is one of the shares', and none of theirs is above it
pub record GreatestIsOneOfTheirs : Type 0 where
  pub above :
      (k shares w : ℕ) (parts : ℕ → State) → w < shares
      → (chain_at (parts w).chains k).greatest ≤ greatest_of k parts shares
  pub reached :
      (k shares : ℕ) (parts : ℕ → State) → 0 < shares
      → (w : ℕ) × (w < shares) × (greatest_of k parts shares ≡ (chain_at (parts w).chains k).greatest)
