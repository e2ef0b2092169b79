-- The keys of a map, which stand in the rows of labels: the map holds their tags alone.
use Rattle.std.specs.Prelude.{◌≡◌, Bool, ℕ, ◌<◌, List, [], length, map, Some, Contains, IsTrue, All}
use Rattle.nf_base.specs.declared.decl.ChainDecl.{ChainDecl}
use Rattle.nf_base.specs.declared.decl.MapDecl.{MapDecl}
use Rattle.nf_base.specs.Chains.{key_in}
use Rattle.hash_slots.specs.declared.cells.Pair.{Pair}
use Rattle.hash_slots.specs.Hashes.{tag_of}
use Rattle.hash_slots.specs.Tags.{Tags, tags_of}
use Rattle.vig_chain.specs.Stamps.{Stamps}
use Rattle.vig_map.specs.Bindings.{Bindings, bindings_of, value_of, is_bindable}
use Rattle.vig_tables.specs.Grid.{Grid, row_at}
use Rattle.vig_tables.specs.Joined.{AreJoined}
use Rattle.vig_tables.specs.Keyed.{Keyed, keyed, IsBoundTo, IsUnbound, value_for, is_bound}

-- the key under an index, beside the index
abbrev pub binding : (ℕ → List ℕ) → Pair → List ℕ × ℕ
binding keys p = (keys p.index, p.index)

-- the keys under the indices that stand with tags, each bound to its index
abbrev pub bindings_in : (ℕ → List ℕ) → Tags → Bindings
bindings_in keys tags = bindings_of (map (binding keys) tags.pairs) tags.most

-- Each tag is that of the key under its index, and no key is under two of the indices.
pub record AreTagged (keys : ℕ → List ℕ) (tags : Tags) : Type 0 where
  pub tagged : (p : Pair) → Contains tags.pairs p → p.tag ≡ tag_of (keys p.index)
  pub apart :
      (p q : Pair) → Contains tags.pairs p → Contains tags.pairs q
      → keys p.index ≡ keys q.index → p ≡ q

-- no key is bound to an index
abbrev pub IsVacant : ℕ → Bindings → Type 0
IsVacant i map = (key : List ℕ) → value_of map.pairs key ≡ Some i → ⊥

-- a map by its fields: which part of an entry's labels is its key, and the tags of the keys that
-- are bound
pub record Tagged : Type 0 where
  pub decl : MapDecl
  pub tags : Tags

-- the key of each row
abbrev pub keys_in : MapDecl → Grid → ℕ → List ℕ
keys_in decl labels i = key_in decl (row_at labels i)

-- the map that the tags are, beside rows
abbrev pub keyed_in : Grid → Tagged → Keyed
keyed_in labels m = keyed m.decl (bindings_in (keys_in m.decl labels) m.tags)

-- each tag is that of its row's key, no two keys are equal, and each index has a row
pub record IsTagged (labels : Grid) (m : Tagged) : Type 0 where
  pub tagged : AreTagged (keys_in m.decl labels) m.tags
  pub within : (p : Pair) → Contains m.tags.pairs p → p.index < length labels.rows

-- The key of a row can be bound to the row's index.
pub record IsReady (labels : Grid) (i : ℕ) (m : Tagged) : Type 0 where
  pub tagged : IsTagged labels m
  pub vacant : IsVacant i (keyed_in labels m).map
  pub unbound : IsTrue (is_bindable (keyed_in labels m).map (key_in m.decl (row_at labels i)))

-- It is bound to it, and nothing else changes.
pub record IsBoundIn (labels : Grid) (i : ℕ) (old new : Tagged) : Type 0 where
  pub bound : IsBoundTo (row_at labels i) i (keyed_in labels old) (keyed_in labels new)
  pub tagged : IsTagged labels new

-- The key of a row is bound to the row's index.
pub record IsBoundAt (labels : Grid) (i : ℕ) (m : Tagged) : Type 0 where
  pub tagged : IsTagged labels m
  pub bound : value_for (row_at labels i) (keyed_in labels m) ≡ Some i

-- It is unbound, and nothing else changes.
pub record IsUnboundIn (labels : Grid) (i : ℕ) (old new : Tagged) : Type 0 where
  pub unbound : IsUnbound (row_at labels i) (keyed_in labels old) (keyed_in labels new)
  pub tagged : IsTagged labels new

-- as many keys may be bound in a map
abbrev pub HasRoom : ℕ → Tagged → Type 0
HasRoom size m = m.tags.most ≡ size

-- a map in which no key is bound
abbrev pub opened_map : MapDecl → ℕ → Tagged
opened_map decl size = record { decl = decl; tags = tags_of [] size }

-- whether the key of some labels is bound
abbrev pub is_bound_in : Grid → List ℕ → Tagged → Bool
is_bound_in labels row m = is_bound row (keyed_in labels m)

-- What is true of the fields of a chain's tables, the keys of whose maps stand in its labels.
pub record AreKept (decl : ChainDecl) (stamps : Stamps) (maps : List Tagged)
    (labels columns : Grid) : Type 0 where
  pub joined : AreJoined decl stamps (map (keyed_in labels) maps) labels columns
  pub tagged : All (IsTagged labels) maps
