-- Laws of kept labels, rules and places.
use Rattle.std.specs.Prelude.{◌≡◌, ◌≢◌, ◌↔◌, ℕ, true, false, List, [], ◌∷◌, ◌++◌, Some, map, Contains}
use Rattle.std.specs.List.Sorted.{IsStrictlyIncreasing}
use Rattle.nf_base.specs.declared.decl.ObjectId.{ObjectId}
use Rattle.nf_base.specs.Text.{Function}
use Rattle.nf_sites.specs.declared.sort.Sort.TheVariants.{Find}
use Rattle.nf_sites.specs.Known.{labels_of}
use Rattle.access_keys.specs.declared.site.Site.{Site}
use Rattle.key_rows.specs.declared.place.Place.{Place}
use Rattle.path_walk.specs.Once.{EachOnce}
use Rattle.shard_rules.specs.declared.rule.Rule.{Rule}
use Rattle.shard_rules.specs.declared.rule.Rule.TheVariants.{SameKey, Subset, DisjointKeys, Unhashable, Interchangeable}
use Rattle.shard_rules.specs.Once.{with_one}
use Rattle.shard_rules.specs.Sites.{object_sites, field_at, knows}
use Rattle.shard_rules.specs.Rules.{kept_labels, rule_of}
use Rattle.shard_rules.specs.Places.{place_of, same_place, places_of}

-- a site that knows one of some labels
pub record KnowsOne (labels : List ℕ) (s : Site) : Type 0 where
  pub label : ℕ
  pub among : Contains labels label
  pub known : knows label s ≡ true

-- every site knows one
abbrev pub AllKnowOne : List ℕ → List Site → Type 0
AllKnowOne labels sites = (s : Site) → Contains sites s → KnowsOne labels s

-- some site knows none
pub record SomeKnowsNone (labels : List ℕ) (sites : List Site) : Type 0 where
  pub site : Site
  pub among : Contains sites site
  pub none : (l : ℕ) → Contains labels l → knows l site ≡ false

-- all sites know the same ones
abbrev pub AllKnowTheSame : List ℕ → List Site → Type 0
AllKnowTheSame labels sites =
    (a b : Site) → Contains sites a → Contains sites b → (l : ℕ) → Contains labels l →
    knows l a ≡ knows l b

-- some site is a `find`
pub record HasFind (sites : List Site) : Type 0 where
  pub site : Site
  pub among : Contains sites site
  pub sort : site.sort ≡ Find

-- The table of the rules, for an object with some labels, by its sites and its kept labels.
abbrev pub Fits : Rule → List ℕ → List Site → List ℕ → Type 0
Fits Unhashable labels sites kept = (kept ≡ []) × SomeKnowsNone labels sites
Fits DisjointKeys labels sites kept = (kept ≡ []) × AllKnowOne labels sites
Fits Interchangeable labels sites kept = (kept ≢ []) × HasFind sites
Fits SameKey labels sites kept =
    (kept ≢ []) × (HasFind sites → ⊥) × AllKnowTheSame labels sites
Fits Subset labels sites kept =
    (kept ≢ []) × (HasFind sites → ⊥) × (AllKnowTheSame labels sites → ⊥)

-- exactly one rule fits
abbrev pub OneRuleFits : Type 0
OneRuleFits = (rule : Rule) (labels : List ℕ) (sites : List Site) (kept : List ℕ) →
    Fits rule labels sites kept ↔ (rule_of labels sites kept ≡ rule)

-- the sites of an object are those that are on it
abbrev pub SitesAreOfTheirObject : Type 0
SitesAreOfTheirObject = (o : ObjectId) (sites : List Site) (s : Site) →
    Contains (object_sites o sites) s ↔ (Contains sites s × (s.object ≡ o))

-- the kept labels are those that each site knows
abbrev pub KeptLabelsAreKnown : Type 0
KeptLabelsAreKnown = (labels : List ℕ) (sites : List Site) (l : ℕ) →
    Contains (kept_labels labels sites) l
    ↔ (Contains labels l × ((s : Site) → Contains sites s → knows l s ≡ true))

-- in text order
abbrev pub KeptLabelsRise : Type 0
KeptLabelsRise = (f : Function) (o : ObjectId) (sites : List Site) →
    IsStrictlyIncreasing (kept_labels (labels_of f o) sites)

-- the place of each site, which knows each kept label by one field
abbrev pub PlacesHaveEachKeptLabel : Type 0
PlacesHaveEachKeptLabel = (labels : List ℕ) (sites : List Site) (s : Site) → Contains sites s →
    map Some (place_of (kept_labels labels sites) s).known
    ≡ map (field_at s) (kept_labels labels sites)

-- a site at a place
pub record IsSiteAt (kept : List ℕ) (sites : List Site) (p : Place) : Type 0 where
  pub site : Site
  pub among : Contains sites site
  pub place : place_of kept site ≡ p

-- the places are those of the sites
abbrev pub PlacesAreThoseOfSites : Type 0
PlacesAreThoseOfSites = (kept : List ℕ) (sites : List Site) (p : Place) →
    Contains (places_of kept sites) p ↔ IsSiteAt kept sites p

-- each once
abbrev pub PlacesStandOnce : Type 0
PlacesStandOnce = (kept : List ℕ) (sites : List Site) → EachOnce (places_of kept sites)

-- the place of a further site is put last, where it isn't among those before it
abbrev pub PlacesComeInOrder : Type 0
PlacesComeInOrder = (kept : List ℕ) (sites : List Site) (s : Site) →
    places_of kept (sites ++ s ∷ []) ≡ with_one same_place (place_of kept s) (places_of kept sites)
