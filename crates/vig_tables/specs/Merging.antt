-- How far the union of shares has come.
use Rattle.std.specs.Prelude.{◌≡◌, ℕ, ◌<◌, ◌≤◌, ◌%◌, List, [], ◌∷◌, All, Contains, length, map, get_or, Option, Some, None, slice_get}
use Rattle.nf_base.specs.declared.decl.ArrayDecl.{ArrayDecl}
use Rattle.nf_base.specs.declared.decl.ChainDecl.{ChainDecl}
use Rattle.nf_base.specs.declared.share.Share.{Share}
use Rattle.nf_base.specs.declared.state.Entry.{Entry}
use Rattle.nf_base.specs.declared.state.State.{State}
use Rattle.nf_base.specs.Chains.{chain_at, entry_at, alive, lifetime_of}
use Rattle.nf_base.specs.Text.{Function}
use Rattle.vig_tables.specs.declared.tables.merged.Aged.{Aged}
use Rattle.vig_tables.specs.Table.{Table}
use Rattle.vig_tables.specs.TablesState.{TablesState}
use Rattle.vig_tables.specs.Union.{owner_among, state_in, HasNamesApart, IsUnionChain, IsUnionArray}

-- the declarations of each of some tables, by number
abbrev pub decls_in : List TablesState → ℕ → List ChainDecl
decls_in tables w = get_or (map (λ (t : TablesState). t.decls) tables) w []

-- what the owner of an index of a chain has there
abbrev pub owned_entry : List TablesState → ℕ → ℕ → Option Entry
owned_entry parts k i = entry_at (chain_at (state_in parts (i % length parts)).chains k).slots i

-- the same without what is past its lifetime at a time
abbrev pub living_entry : List TablesState → ℕ → ℕ → ℕ → Option Entry
living_entry parts k time i =
    alive time (lifetime_of (decls_in parts (i % length parts)) k) (owned_entry parts k i)

-- the greatest stamp that the owner of an index gave of a chain
abbrev pub owned_greatest : List TablesState → ℕ → ℕ → ℕ
owned_greatest parts k i = (chain_at (state_in parts (i % length parts)).chains k).greatest

-- an index with the stamp of its entry, if there is one
abbrev pub aged_of : ℕ → Option ℕ → List Aged
aged_of i None = []
aged_of i (Some stamp) = record { stamp = stamp; index = i } ∷ []

-- the size of a chain
abbrev pub size_of : List ChainDecl → ℕ → ℕ
size_of decls k = get_or (map (λ (decl : ChainDecl). decl.size) decls) k 0

-- an entry stands at an index below some, with this stamp, which is none too great
pub record IsAged (entry : ℕ → Option Entry) (top : ℕ → ℕ) (below : ℕ) (aged : Aged) : Type 0 where
  pub within : aged.index < below
  pub it : Entry
  pub there : entry aged.index ≡ Some it
  pub stamp : it.stamp ≡ aged.stamp
  pub under : aged.stamp ≤ top aged.index

-- the entries at the indices below some are listed, each by its stamp and its index
pub record AreListed (entry : ℕ → Option Entry) (top : ℕ → ℕ) (below : ℕ) (entries : List Aged)
    : Type 0 where
  pub sound : All (IsAged entry top below) entries
  pub all :
      (i : ℕ) (e : Entry) → i < below → entry i ≡ Some e
      → Contains entries (record { stamp = e.stamp; index = i })

-- some tables all have a chain of this declaration
abbrev pub HaveChain : ℕ → ChainDecl → List TablesState → Type 0
HaveChain k decl tables = All (λ (t : TablesState). slice_get t.decls k ≡ Some decl) tables

-- The tables of a chain of the union, where this has no key at two indices.
pub record IsUnionTable (f : Function) (share : Share) (time : ℕ) (parts : List TablesState)
    (k : ℕ) (t : Table) : Type 0 where
  pub decl : slice_get f.chains k ≡ Some t.decl
  pub share_is : t.share ≡ share
  pub chain :
      HasNamesApart (owner_among (length parts)) f time (state_in parts)
      → IsUnionChain (owner_among (length parts)) f time (length parts) (state_in parts) k t.decl
      t.chain

-- the tables of its first chains, so many
pub record AreUnionTables (f : Function) (share : Share) (time : ℕ) (parts : List TablesState)
    (count : ℕ) (tables : List Table) : Type 0 where
  pub all : length tables ≡ count
  pub each :
      (k : ℕ) (t : Table) → slice_get tables k ≡ Some t → IsUnionTable f share time parts k t

-- the first arrays of the union, so many
pub record AreUnionArrays (shares : ℕ) (parts : ℕ → State) (decls : List ArrayDecl) (count : ℕ)
    (arrays : List (List ℕ)) : Type 0 where
  pub all : length arrays ≡ count
  pub each :
      (a : ℕ) (decl : ArrayDecl) (cells : List ℕ) → slice_get decls a ≡ Some decl
      → slice_get arrays a ≡ Some cells → IsUnionArray shares parts a decl cells
