-- What a function remembers, by index, and the operations on one chain.
use Rattle.std.specs.Prelude.{ℕ, suc, ◌+◌, max, Bool, true, false, ◌||◌, ◌&&◌, nat_lt, List, [], ◌∷◌, take, drop, Option, Some, None, if◌then◌else◌, map, get_or, slice_get, slice_set}
use Rattle.std.specs.Option.{option_map}
use Rattle.std.specs.Str.{bytes_eq}
use Rattle.nf_base.specs.declared.state.Entry.{Entry}
use Rattle.nf_base.specs.declared.state.Chain.{Chain}
use Rattle.nf_base.specs.declared.decl.MapDecl.{MapDecl}
use Rattle.nf_base.specs.declared.decl.ColumnDecl.{ColumnDecl}
use Rattle.nf_base.specs.declared.decl.ChainDecl.{ChainDecl}

-- a chain with no index, which stands past the last one
abbrev pub no_chain : Chain
no_chain = record { slots = []; greatest = 0 }

-- the chain of a number
abbrev pub chain_at : List Chain → ℕ → Chain
chain_at chains k = get_or chains k no_chain

-- the cells of the array of a number; past the last one there are none
abbrev pub array_at : List (List ℕ) → ℕ → List ℕ
array_at arrays k = get_or arrays k []

-- the maps of a chain
abbrev pub maps_of : List ChainDecl → ℕ → List MapDecl
maps_of decls k = get_or (map (λ (decl : ChainDecl). decl.maps) decls) k []

-- what the free columns of a chain's new entries hold: a 0 for each
abbrev pub zeros_of : List ChainDecl → ℕ → List ℕ
zeros_of decls k =
    get_or (map (λ (decl : ChainDecl). map (λ (column : ColumnDecl). 0) decl.columns) decls) k []

-- how long an entry of a chain stays after its stamp
abbrev pub lifetime_of : List ChainDecl → ℕ → ℕ
lifetime_of decls k = get_or (map (λ (decl : ChainDecl). decl.lifetime) decls) k 0

-- the part of an entry's labels that is its key in a map
abbrev pub key_in : MapDecl → List ℕ → List ℕ
key_in m labels = take m.parts (drop m.first labels)

-- whether two keys have the same parts
abbrev pub same_key : List ℕ → List ℕ → Bool
same_key a b = bytes_eq a b

-- whether the entry at an index has a key in a map
abbrev pub has_key : MapDecl → List ℕ → Option Entry → Bool
has_key m key None = false
has_key m key (Some entry) = same_key (key_in m entry.labels) key

-- the first index whose entry has a key
abbrev pub found : MapDecl → List ℕ → List (Option Entry) → Option ℕ
found m key [] = None
found m key (slot ∷ slots) =
    if has_key m key slot then Some 0 else option_map (λ i. suc i) (found m key slots)

-- whether a search found something
abbrev pub is_found : {A : Type 0} → Option A → Bool
is_found None = false
is_found (Some x) = true

-- whether one of these labels' keys is bound in its map
abbrev pub is_taken : List MapDecl → List ℕ → List (Option Entry) → Bool
is_taken [] labels slots = false
is_taken (m ∷ ms) labels slots =
    is_found (found m (key_in m labels) slots) || is_taken ms labels slots

-- whether each index has an entry
abbrev pub is_full : List (Option Entry) → Bool
is_full [] = true
is_full (None ∷ slots) = false
is_full (Some entry ∷ slots) = is_full slots

-- whether there is such an index, and no entry at it
abbrev pub is_vacant : Option (Option Entry) → Bool
is_vacant None = false
is_vacant (Some None) = true
is_vacant (Some (Some entry)) = false

-- an option of an option as one
abbrev pub joined : {A : Type 0} → Option (Option A) → Option A
joined None = None
joined (Some x) = x

-- the entry at an index
abbrev pub entry_at : List (Option Entry) → ℕ → Option Entry
entry_at slots i = joined (slice_get slots i)

-- an entry that is not past its lifetime at a time
abbrev pub alive : ℕ → ℕ → Option Entry → Option Entry
alive time lifetime None = None
alive time lifetime (Some entry) = if nat_lt (entry.stamp + lifetime) time then None else Some entry

-- a chain without what is past its lifetime
abbrev pub unexpired : ℕ → ℕ → Chain → Chain
unexpired time lifetime chain = record chain { slots = map (alive time lifetime) chain.slots }

-- every chain without what is past its lifetime, given by the chain's number
abbrev pub expired : ℕ → (ℕ → ℕ) → List Chain → List Chain
expired time lifetime [] = []
expired time lifetime (chain ∷ chains) =
    unexpired time (lifetime 0) chain ∷ expired time (λ k. lifetime (suc k)) chains

-- whether an entry is past its lifetime at a time
abbrev pub is_due : ℕ → ℕ → Option Entry → Bool
is_due time lifetime None = false
is_due time lifetime (Some entry) = nat_lt (entry.stamp + lifetime) time

-- whether no entry of a chain is past its lifetime
abbrev pub none_due : ℕ → ℕ → List (Option Entry) → Bool
none_due time lifetime [] = true
none_due time lifetime (slot ∷ slots) =
    if is_due time lifetime slot then false else none_due time lifetime slots

-- whether no entry of any chain is
abbrev pub all_none_due : ℕ → (ℕ → ℕ) → List Chain → Bool
all_none_due time lifetime [] = true
all_none_due time lifetime (chain ∷ chains) =
    none_due time (lifetime 0) chain.slots && all_none_due time (λ k. lifetime (suc k)) chains

-- the stamp that a chain gives at a time
abbrev pub next_stamp : ℕ → Chain → ℕ
next_stamp time chain = max time chain.greatest

-- an entry put at an index, with the chain's next stamp
abbrev pub stamped : ℕ → ℕ → Entry → Chain → Chain
stamped time i entry chain = record {
  slots = slice_set chain.slots i (Some (record entry { stamp = next_stamp time chain }));
  greatest = next_stamp time chain;
}

-- a new entry, to be stamped
abbrev pub fresh : List ℕ → List ℕ → Entry
fresh labels columns = record { stamp = 0; labels = labels; columns = columns }

-- an operation on an entry, where one is live
abbrev pub on_live : (Entry → Chain → Chain) → Option Entry → Chain → Chain
on_live op None chain = chain
on_live op (Some entry) chain = op entry chain

-- the chain after a touch of an index
abbrev pub touched : ℕ → ℕ → Chain → Chain
touched time i chain = on_live (stamped time i) (entry_at chain.slots i) chain

-- the chain after the entry at an index was freed
abbrev pub freed : ℕ → Chain → Chain
freed i chain = record chain { slots = slice_set chain.slots i None }

-- an entry put at an index with a value in one of its columns
abbrev pub with_column : ℕ → ℕ → ℕ → Entry → Chain → Chain
with_column column v i entry chain = record chain {
  slots = slice_set chain.slots i (Some (record entry { columns = slice_set entry.columns column v }));
}

-- the chain after a column of the entry at an index was given a value
abbrev pub written : ℕ → ℕ → ℕ → Chain → Chain
written column v i chain = on_live (with_column column v i) (entry_at chain.slots i) chain
