-- What it is for a packet to touch a location at a site.
use Rattle.std.specs.Prelude.{◌≡◌, ℕ, ◌==◌, Bool, true, false, List, [], ◌∷◌, ◌++◌, map, Option, Some, None, slice_get, Contains}
use Rattle.nf_base.specs.declared.packet.Door.{Door}
use Rattle.nf_base.specs.declared.decl.ChainDecl.{ChainDecl}
use Rattle.nf_base.specs.declared.decl.ObjectId.TheVariants as object
use Rattle.nf_base.specs.Text.{Given, Function}
use Rattle.nf_base.specs.Context.{Context, Input, given, or_zero}
use Rattle.nf_base.specs.Events.{Event, LookedUp, Found, AskedNew, EntryUsed, EntryFreed, CellRead, CellWritten}
use Rattle.nf_base.specs.Record.{text_place}
use Rattle.nf_base.specs.Locations.{Location, EntryNo, KeyOf, CellAt, object_of, Numbers, all_numbers, locations_of}
use Rattle.nf_sites.specs.declared.sort.Sort.{Sort}
use Rattle.nf_sites.specs.declared.sort.Sort.TheVariants as sort
use Rattle.nf_sites.specs.Named.{Named, named_as, numbered}
use Rattle.nf_sites.specs.Sites.{Site, first_label}
use Rattle.nf_sites.specs.Known.{together}

-- of each chain, the labels of the entry of each number, where they are told
abbrev pub Table : Type 0
Table = (chain k : ℕ) → Option (List ℕ)

-- of no entry are the labels told
abbrev pub no_table : Table
no_table chain k = None

-- whether a site looks a key of a map up
abbrev pub looks_in : ℕ → Sort → Bool
looks_in m (sort.Get k) = m == k
looks_in m sort.Find = false
looks_in m sort.New = false
looks_in m (sort.Name k) = m == k
looks_in m sort.Load = false
looks_in m sort.Store = false

-- whether a site binds a variable to an entry
abbrev pub binds : Sort → Bool
binds (sort.Get m) = true
binds sort.Find = true
binds sort.New = true
binds (sort.Name m) = false
binds sort.Load = false
binds sort.Store = false

-- whether a site is an access to a cell
abbrev pub accesses : Sort → Bool
accesses (sort.Get m) = false
accesses sort.Find = false
accesses sort.New = false
accesses (sort.Name m) = false
accesses sort.Load = true
accesses sort.Store = true

-- each label that is named is given its value
abbrev pub AllGiven : Input → Context → (ℕ → ℕ) → List (Named Given) → Type 0
AllGiven p c value [] = Unit {0}
AllGiven p c value (x ∷ xs) =
    (given p c x.given ≡ value x.label) × AllGiven p c value xs

-- the value of a label among some
abbrev pub label_value : List ℕ → ℕ → ℕ
label_value labels l = or_zero (slice_get labels l)

-- labels that are together are equal
abbrev pub AreTogether : Function → ℕ → List ℕ → Type 0
AreTogether f chain labels =
    (l r : ℕ) → together f (object.Chain chain) l r ≡ true →
    label_value labels l ≡ label_value labels r

-- where an entry's labels are told, each that is named is given its value, and those that are
-- together are equal
abbrev pub FitsLabels :
    Function → Input → Context → (chain : ℕ) → Option (List ℕ) → List (Named Given) → Type 0
FitsLabels f p c chain None named = Unit {0}
FitsLabels f p c chain (Some labels) named =
    AllGiven p c (label_value labels) named × AreTogether f chain labels

-- A key is touched at a look-up of its map with its key, an entry at a `get`, a `find` or a `new`
-- with its labels, a cell at an access with its index.
abbrev pub Fits : Function → Table → Input → Context → Site → Location → Type 0
Fits f table p c site (KeyOf chain m key) =
    (looks_in m site.sort ≡ true)
    × (map (named_as (given p c)) site.named ≡ numbered (first_label f.chains chain m) key)
Fits f table p c site (EntryNo chain k) =
    (binds site.sort ≡ true) × FitsLabels f p c chain (table chain k) site.named
Fits f table p c site (CellAt array i) =
    (accesses site.sort ≡ true) × AllGiven p c (λ l. i) site.named

-- a location that is touched at a site of a port, one of some sites
pub record TouchedAt (ok : Site → Type 0) (f : Function) (table : Table) (p : Input) (of : Door)
    (x : Location) : Type 0 where
  pub site : Site
  pub is_site : ok site
  pub door : site.door ≡ of
  pub object : site.object ≡ object_of x
  pub context : Context
  pub fits : Fits f table p context site x

-- whether a site is one of an event's own statement
abbrev pub is_own : Event → Sort → Bool
is_own (LookedUp place chain m key hit) (sort.Get k) = m == k
is_own (Found place chain hit) sort.Find = true
is_own (AskedNew place chain labels result) sort.New = true
is_own (AskedNew place chain labels result) (sort.Name m) = true
is_own (CellRead place array i) sort.Load = true
is_own (CellWritten place array i changed) sort.Store = true
is_own e s = false

-- a site at a place, of the event's own statement
pub record IsOwnSite (at : ℕ) (e : Event) (site : Site) : Type 0 where
  pub place : site.place ≡ at
  pub own : is_own e site.sort ≡ true

-- the same, where the event has a place
abbrev pub StandsAt : Option ℕ → Event → Site → Type 0
StandsAt None e site = ⊥
StandsAt (Some place) e site = IsOwnSite place e site

-- a site stands where an event does
abbrev pub StandsBy : Event → Site → Type 0
StandsBy e site = StandsAt (text_place e) e site

-- A site where an earlier event of a record stands that touches the same entry: the look-up, `find`
-- or `new` that found or made it, since no other event of an entry stands at a site.
pub record Binder (decls : List ChainDecl) (ns : Numbers) (before : List Event) (x : Location)
    (site : Site) : Type 0 where
  pub earlier : List Event
  pub event : Event
  pub later : List Event
  pub is_before : before ≡ earlier ++ event ∷ later
  pub touches : Contains (locations_of decls (all_numbers ns earlier) event) x
  pub stands : StandsBy event site

-- what an event touches, it touches at a site of its own statement; an operation on a variable's
-- entry at a site of the statement that bound the variable
abbrev pub Stands : List ChainDecl → Numbers → List Event → Event → Location → Site → Type 0
Stands decls ns before (EntryUsed chain i changed) x site = Binder decls ns before x site
Stands decls ns before (EntryFreed chain i) x site = Binder decls ns before x site
Stands decls ns before e x site = StandsBy e site

-- a location that an event touches at one of some sites, behind other events of its record
pub record TouchedBy (ok : Site → Type 0) (f : Function) (table : Table) (p : Input) (of : Door)
    (ns : Numbers) (before : List Event) (e : Event) (x : Location) : Type 0 where
  pub touched : TouchedAt ok f table p of x
  pub stands : Stands f.chains ns before e x touched.site
