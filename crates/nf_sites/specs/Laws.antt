-- Laws of sites.
use Rattle.std.specs.Prelude.{◌≡◌, ◌↔◌, ◌≤◌, ℕ, true, Some, slice_get, Contains, AllPairs}
use Rattle.std.specs.List.{flat_map}
use Rattle.std.specs.List.Sorted.{IsStrictlyIncreasing}
use Rattle.nf_base.specs.Doors.{handler_at}
use Rattle.nf_base.specs.declared.packet.Door.{Door}
use Rattle.nf_base.specs.declared.decl.ObjectId.{ObjectId}
use Rattle.nf_base.specs.declared.packet.Fields.{Fields}
use Rattle.nf_base.specs.Text.{Block, Function}
use Rattle.nf_base.specs.Statements.{statements}
use Rattle.nf_base.specs.TextPlaces.{places_in, HasPlaces}
use Rattle.nf_sites.specs.Sites.{Site}
use Rattle.nf_sites.specs.TextOrder.{PlacesRise}
use Rattle.nf_sites.specs.OnPaths.{door_sites, sites_of, IsSite}
use Rattle.nf_sites.specs.Known.{is_kept, IsKept}
use Rattle.nf_sites.specs.Admissible.{IsAdmissibleBySites, IsAdmissible}

-- each site on a feasible path is listed
abbrev pub SitesOnPathsAreListed : Type 0
SitesOnPathsAreListed = (f : Function) (x : Site) → IsSite f x → Contains (sites_of f) x

-- and where no place stands twice in the text, as in each checked function, no other one is
abbrev pub ListedSitesAreOnPaths : Type 0
ListedSitesAreOnPaths =
    (f : Function) (x : Site) → HasPlaces f → Contains (sites_of f) x → IsSite f x

-- the sites of a port are of that port
abbrev pub SitesAreOfTheirPort : Type 0
SitesAreOfTheirPort =
    (f : Function) (door : Door) (x : Site) → Contains (door_sites f door) x → x.door ≡ door

-- and stand as their places do, where those rise along the text, in whatever order a `new` is given
-- its labels; it has one place with its look-ups
abbrev pub SitesStandInTextOrder : Type 0
SitesStandInTextOrder =
    (f : Function) (door : Door) (block : Block) → handler_at f door ≡ Some block →
    PlacesRise block →
    AllPairs (λ (x y : Site). x.place ≤ y.place) (door_sites f door)

-- which they do where all places rise, a `new`'s too, as the chain has its labels
abbrev pub RisingTextsRise : Type 0
RisingTextsRise =
    (block : Block) → IsStrictlyIncreasing (flat_map places_in (statements block)) →
    PlacesRise block

-- a kept label is known at each site of its object
abbrev pub KeptLabelsAreKnown : Type 0
KeptLabelsAreKnown =
    (f : Function) (o : ObjectId) (l : ℕ) → is_kept f o l ≡ true → IsKept f o l

-- and one that is known at each site is kept, where no place stands twice in the text
abbrev pub LabelsKnownAreKept : Type 0
LabelsKnownAreKept =
    (f : Function) (o : ObjectId) (l : ℕ) → HasPlaces f → IsKept f o l → is_kept f o l ≡ true

-- by sites that are listed, a hash is admissible exactly where it is so by those on feasible paths
abbrev pub ListsSayWhatIsAdmissible : Type 0
ListsSayWhatIsAdmissible =
    (f : Function) (hash : Door → Fields → ℕ) → HasPlaces f →
    IsAdmissibleBySites f hash ↔ IsAdmissible f hash
