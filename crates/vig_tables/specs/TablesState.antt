-- What the tables of a function are seen as, a state over a share, and what their calls do.
use Rattle.std.specs.Prelude.{◌≡◌, ℕ, ◌-◌, nat_lt, List, [], ◌∷◌, length, map, drop, get_or, Option, Some, None, if◌then◌else◌, slice_get, slice_set}
use Rattle.std.specs.Borrow.{Bor}
use Rattle.nf_base.specs.declared.decl.ChainDecl.{ChainDecl}
use Rattle.nf_base.specs.declared.decl.MapDecl.{MapDecl}
use Rattle.nf_base.specs.declared.share.Share.{Share}
use Rattle.nf_base.specs.declared.state.Chain.{Chain}
use Rattle.nf_base.specs.declared.state.Entry.{Entry}
use Rattle.nf_base.specs.declared.state.State.{State}
use Rattle.nf_base.specs.Chains.{chain_at, array_at, maps_of, zeros_of, lifetime_of, no_chain}
use Rattle.nf_base.specs.Step.{opening}
use Rattle.nf_base.specs.Text.{Function}
use Rattle.vig_tables.specs.Table.{Table, index_under, zeros}

-- a state beside the declarations of its chains, and the share whose indices are given out
pub record TablesState : Type 0 where
  pub decls : List ChainDecl
  pub state : State
  pub share : Share

-- the declarations of some chains' tables
abbrev pub decls_of : List Table → List ChainDecl
decls_of tables = map (λ (t : Table). t.decl) tables

-- their chains
abbrev pub chains_of : List Table → List Chain
chains_of tables = map (λ (t : Table). t.chain) tables

-- the tables of all chains and the arrays, by the fields
abbrev pub state_of : List Table → List (List ℕ) → Share → TablesState
state_of tables arrays share = record {
  decls = decls_of tables;
  state = record { chains = chains_of tables; arrays = arrays };
  share = share;
}

-- a function that has handled nothing yet
abbrev pub opened_tables : Function → Share → TablesState
opened_tables f share = record { decls = f.chains; state = opening f; share = share }

-- the same with other chains
abbrev pub with_chains : List Chain → TablesState → TablesState
with_chains chains t = record {
  decls = t.decls;
  state = record { chains = chains; arrays = t.state.arrays };
  share = t.share;
}

-- the same with other arrays
abbrev pub with_arrays : List (List ℕ) → TablesState → TablesState
with_arrays arrays t = record {
  decls = t.decls;
  state = record { chains = t.state.chains; arrays = arrays };
  share = t.share;
}

-- what stands at the indices of a chain: past the last chain there are none
abbrev pub slots_at : TablesState → ℕ → List (Option Entry)
slots_at t k = (chain_at t.state.chains k).slots

-- the chain of a number changed, if there is one
abbrev pub changed : ℕ → (Chain → Chain) → TablesState → TablesState
changed k change t =
    with_chains (slice_set t.state.chains k (change (chain_at t.state.chains k))) t

-- a cell of an array given a value, if there is one
abbrev pub with_cell : ℕ → ℕ → ℕ → TablesState → TablesState
with_cell array i v t =
    with_arrays (slice_set t.state.arrays array (slice_set (array_at t.state.arrays array) i v)) t

-- how many labels each entry of a chain has
abbrev pub label_count : List ChainDecl → ℕ → ℕ
label_count decls k = get_or (map (λ (decl : ChainDecl). length decl.labels) decls) k 0

-- the index under a key in a map, by the map's number over all chains
abbrev pub index_over : List ChainDecl → List Chain → ℕ → List ℕ → Option ℕ
index_over [] chains m key = None
index_over (decl ∷ decls) chains m key =
    if nat_lt m (length decl.maps) then index_under decl.maps m key (chain_at chains 0).slots
    else index_over decls (drop 1 chains) (m - length decl.maps) key

-- the tables of a chain have these parts
pub record HasParts (t : TablesState) (k : ℕ) (chain : Chain) (maps : List MapDecl)
    (zeros : List ℕ) (lifetime labels : ℕ) : Type 0 where
  pub chain_is : chain_at t.state.chains k ≡ chain
  pub maps_are : maps_of t.decls k ≡ maps
  pub zeros_are : zeros_of t.decls k ≡ zeros
  pub lifetime_is : lifetime_of t.decls k ≡ lifetime
  pub label_count_is : label_count t.decls k ≡ labels

-- These tables of a chain stand at a number.
pub record StandsAt (t : TablesState) (k : ℕ) (table : Table) : Type 0 where
  pub parts :
      HasParts t k table.chain table.decl.maps (zeros table.decl.columns) table.decl.lifetime
      (length table.decl.labels)
  pub decl_is : slice_get t.decls k ≡ Some table.decl
  pub share_is : t.share ≡ table.share

-- the tables of a chain: past the last there are none
abbrev pub IsTableAt : TablesState → ℕ → Option (Bor Table) → Type 0
IsTableAt t k None = HasParts t k no_chain [] [] 0 0
IsTableAt t k (Some table) = StandsAt t k table.now

-- of this share are a chain's tables
abbrev pub IsOfShare : Share → Table → Type 0
IsOfShare share t = t.share ≡ share
