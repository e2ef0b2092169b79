-- The places of the text that paths come to.
use Rattle.std.specs.Prelude.{◌≡◌, ℕ, ◌==◌, Bool, true, false, ◌||◌, List, [], ◌∷◌, ◌++◌}
use Rattle.std.specs.List.{list_any}
use Rattle.std.specs.Ordering.{nat_cmp}
use Rattle.std.specs.BTreeSet.{contains}
use Rattle.nf_base.specs.Statements.{Statement}
use Rattle.nf_base.specs.TextPlaces.{places_in}
use Rattle.access_keys.specs.declared.places.Places.{Places}

-- whether a place is among some
abbrev pub has : Places → ℕ → Bool
has places place = contains nat_cmp places.inner place

-- some places more
pub record HasMore (old new : Places) (added : List ℕ) : Type 0 where
  pub both : (place : ℕ) → has new place ≡ (has old place || list_any (λ n. n == place) added)

-- the places of a statement, where it is marked
abbrev pub places_if : Bool → Statement → List ℕ
places_if true s = places_in s
places_if false s = []

-- the places of the marked ones of some statements
abbrev pub places_marked : List Bool → List Statement → List ℕ
places_marked [] ss = []
places_marked (m ∷ ms) [] = []
places_marked (m ∷ ms) (s ∷ ss) = places_if m s ++ places_marked ms ss

-- Places are those of the marked ones of some statements.
pub record AreMarked (marks : List Bool) (ss : List Statement) (places : Places) : Type 0 where
  pub same : (place : ℕ) → has places place ≡ list_any (λ n. n == place) (places_marked marks ss)
