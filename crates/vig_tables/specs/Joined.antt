-- What is true of the fields of a chain's tables.
use Rattle.std.specs.Prelude.{◌≡◌, ℕ, IsTrue, List, length, map, Option, Some, All}
use Rattle.nf_base.specs.declared.decl.ChainDecl.{ChainDecl}
use Rattle.nf_base.specs.declared.state.Entry.{Entry}
use Rattle.nf_base.specs.Chains.{has_key, entry_at}
use Rattle.nf_base.specs.Shares.{owns}
use Rattle.vig_chain.specs.Stamps.{Stamps, stamp_of}
use Rattle.vig_map.specs.Bindings.{value_of}
use Rattle.vig_tables.specs.Grid.{Grid}
use Rattle.vig_tables.specs.Keyed.{Keyed}
use Rattle.vig_tables.specs.Slots.{slots_of, live}
use Rattle.vig_tables.specs.Table.{Table}

-- the entries, by the fields
abbrev pub entries : Stamps → Grid → Grid → List (Option Entry)
entries stamps labels columns = slots_of stamps.slots labels.rows columns.rows

-- the tables, by the fields
abbrev pub table_of : ChainDecl → Stamps → Grid → Grid → Table
table_of decl stamps labels columns = record {
  decl = decl;
  chain = record { slots = entries stamps labels columns; greatest = stamps.greatest };
  share = stamps.share;
}

-- Exactly the keys of the entries are bound in a map, each to its entry's index, and there is room
-- for a key of each index.
pub record IsJoined (size : ℕ) (slots : List (Option Entry)) (m : Keyed) : Type 0 where
  pub room : m.map.most ≡ size
  pub count : length m.map.pairs ≡ live slots
  pub there :
      (key : List ℕ) (i : ℕ)
      → value_of m.map.pairs key ≡ Some i → IsTrue (has_key m.decl key (entry_at slots i))
  pub back :
      (key : List ℕ) (i : ℕ)
      → IsTrue (has_key m.decl key (entry_at slots i)) → value_of m.map.pairs key ≡ Some i

-- Every map is joined with the entries, each index has a row of labels and one of free columns, and
-- the live ones are own.
pub record AreJoined (decl : ChainDecl) (stamps : Stamps) (maps : List Keyed)
    (labels columns : Grid) : Type 0 where
  pub size : length stamps.slots ≡ decl.size
  pub label_rows : length labels.rows ≡ decl.size
  pub column_rows : length columns.rows ≡ decl.size
  pub label_width : labels.width ≡ length decl.labels
  pub column_width : columns.width ≡ length decl.columns
  pub decls : map (λ (m : Keyed). m.decl) maps ≡ decl.maps
  pub joined : All (IsJoined decl.size (entries stamps labels columns)) maps
  pub own : (i s : ℕ) → stamp_of stamps.slots i ≡ Some s → IsTrue (owns stamps.share i)
