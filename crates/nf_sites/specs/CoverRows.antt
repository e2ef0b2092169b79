-- Worked rows: which sites an event's locations are at, and what is given there.
use Rattle.std.specs.Prelude.{◌≡◌, ◌^◌, ◌%◌, ◌⊎◌, ℕ, Bool, true, false, List, [], ◌∷◌, map, Some, None}
use Rattle.nf_base.specs.Families.{source, destination}
use Rattle.nf_base.specs.declared.decl.ChainDecl.{ChainDecl}
use Rattle.nf_base.specs.declared.packet.Fields.{Fields}
use Rattle.nf_base.specs.Operations.{Made}
use Rattle.nf_base.specs.Events.{Event, Tested, LookedUp, Found, AskedNew, EntryUsed, CellRead, CellWritten}
use Rattle.nf_base.specs.Locations.{Location, EntryNo, KeyOf, CellAt, Numbers}
use Rattle.nf_base.specs.Step.{input}
use Rattle.nf_laws.specs.Policer.{policer}
use Rattle.nf_laws.specs.Sums.{counters}
use Rattle.nf_sites.specs.Samples.{four_at}
use Rattle.nf_sites.specs.declared.sort.Sort.{Sort}
use Rattle.nf_sites.specs.declared.sort.Sort.TheVariants as sort
use Rattle.nf_sites.specs.Sites.{Site}
use Rattle.nf_sites.specs.Covers.{Table, looks_in, binds, accesses, label_value, TouchedAt, is_own, Stands}
use Rattle.nf_sites.specs.Labelled.{told}
use Rattle.nf_sites.specs.CoverLaws.{IsOf}

-- a site of each sort, of two maps
abbrev pub all_sorts : List Sort
all_sorts =
    sort.Get 0 ∷ sort.Get 1 ∷ sort.Find ∷ sort.New ∷ sort.Name 0 ∷ sort.Name 1 ∷ sort.Load
    ∷ sort.Store ∷ []

-- the sorts that an event has sites of
abbrev pub own_sorts : Event → List Bool
own_sorts e = map (is_own e) all_sorts

-- none of them
abbrev pub no_sort : List Bool
no_sort = false ∷ false ∷ false ∷ false ∷ false ∷ false ∷ false ∷ false ∷ []

-- which sorts look keys up, bind variables and access cells, and which are those of each event
pub record SortsAreTold : Type 0 where
  -- a key of a map is looked up by a `get` of the map, and by a `new`
  pub look_ups : map (looks_in 1) all_sorts
      ≡ false ∷ true ∷ false ∷ false ∷ false ∷ true ∷ false ∷ false ∷ []
  -- a `get`, a `find` and a `new` bind a variable
  pub binders : map binds all_sorts
      ≡ true ∷ true ∷ true ∷ true ∷ false ∷ false ∷ false ∷ false ∷ []
  pub cells : map accesses all_sorts
      ≡ false ∷ false ∷ false ∷ false ∷ false ∷ false ∷ true ∷ true ∷ []
  pub of_a_get : own_sorts (LookedUp 0 0 1 [] None)
      ≡ false ∷ true ∷ false ∷ false ∷ false ∷ false ∷ false ∷ false ∷ []
  pub of_a_find : own_sorts (Found 0 0 None)
      ≡ false ∷ false ∷ true ∷ false ∷ false ∷ false ∷ false ∷ false ∷ []
  -- a `new` has its own, and one for each map
  pub of_a_new : own_sorts (AskedNew 0 0 [] (Made 0))
      ≡ false ∷ false ∷ false ∷ true ∷ true ∷ true ∷ false ∷ false ∷ []
  pub of_a_read : own_sorts (CellRead 0 0 0)
      ≡ false ∷ false ∷ false ∷ false ∷ false ∷ false ∷ true ∷ false ∷ []
  pub of_a_write : own_sorts (CellWritten 0 0 0 true)
      ≡ false ∷ false ∷ false ∷ false ∷ false ∷ false ∷ false ∷ true ∷ []
  pub of_a_test : own_sorts (Tested 0 true) ≡ no_sort
  pub of_a_use : own_sorts (EntryUsed 0 0 true) ≡ no_sort

-- an operation on the entry at index 2 of chain 0 is at a site, behind these events
abbrev pub UsedBehind : List ChainDecl → Numbers → List Event → ℕ → Site → Type 0
UsedBehind decls ns before k site =
    Stands decls ns before (EntryUsed 0 2 false) (EntryNo 0 k) site

-- where an operation on an entry is touched
pub record EntriesAreFoundFirst : Type 0 where
  -- the site is at the place of the event that found the entry
  pub where_found : (decls : List ChainDecl) (ns : Numbers) (key : List ℕ) (k : ℕ) (site : Site) →
      UsedBehind decls ns (LookedUp 7 0 0 key (Some 2) ∷ []) k site → site.place ≡ 7
  -- which touches that entry
  pub not_by_a_miss : (decls : List ChainDecl) (ns : Numbers) (key : List ℕ) (k : ℕ) (site : Site) →
      UsedBehind decls ns (LookedUp 7 0 0 key None ∷ []) k site → ⊥
  -- by its statement's own site, which a use has none of
  pub not_by_a_use : (decls : List ChainDecl) (ns : Numbers) (k : ℕ) (site : Site) →
      UsedBehind decls ns (EntryUsed 0 2 true ∷ []) k site → ⊥
  -- and comes before
  pub not_by_none : (decls : List ChainDecl) (ns : Numbers) (k : ℕ) (site : Site) →
      UsedBehind decls ns [] k site → ⊥
  -- another event is at a place of its own
  pub at_its_place : (decls : List ChainDecl) (ns : Numbers) (x : Location) (site : Site) →
      Stands decls ns [] (CellRead 3 0 0) x site → site.place ≡ 3

-- a packet with some fields touches a location at a port of a policer
abbrev pub PolicerTouches : Table → Fields → (port : ℕ) → Location → Type 0
PolicerTouches table fields port x =
    TouchedAt (IsOf policer) policer table (input policer 0 fields) (four_at port) x

-- what the sites of a policer and of an array are given
pub record ValuesAreGiven : Type 0 where
  -- a policer touches a key with the packet's destination
  pub key : (table : Table) (fields : Fields) (key : List ℕ) →
      PolicerTouches table fields 1 (KeyOf 0 0 key) → key ≡ destination fields % 2 ^ 32 ∷ []
  -- and an entry whose label is the destination
  pub entry : (labels : (chain k : ℕ) → List ℕ) (fields : Fields) (k : ℕ) →
      PolicerTouches (told labels) fields 1 (EntryNo 0 k) →
      label_value (labels 0 k) 0 ≡ destination fields % 2 ^ 32
  -- and nothing at a port without sites, nor in another chain
  pub port : (table : Table) (fields : Fields) (x : Location) →
      PolicerTouches table fields 0 x → ⊥
  pub chain : (table : Table) (fields : Fields) (k : ℕ) →
      PolicerTouches table fields 1 (EntryNo 1 k) → ⊥
  -- a cell is touched by the index that an access gives
  pub cell : (table : Table) (fields : Fields) (i : ℕ) →
      TouchedAt (IsOf counters) counters table (input counters 0 fields) (four_at 0) (CellAt 0 i) →
      (fields.src_port % 2 ^ 16 ≡ i) ⊎ (fields.dst_port % 2 ^ 16 ≡ i)
