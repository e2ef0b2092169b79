-- Places that rise along a text. A `new` may be given the labels of its chain in any order.
use Rattle.std.specs.Prelude.{◌<◌, ◌⊎◌, ℕ, List, [], ◌∷◌, Contains, All, AllPairs}
use Rattle.std.specs.List.Sorted.{IsStrictlyIncreasing}
use Rattle.nf_base.specs.Text.{Given, Creation, Block}
use Rattle.nf_base.specs.Statements.{Statement, Ends, Does, Asks, Makes, statements}
use Rattle.nf_base.specs.TextPlaces.{expression_places, given_places, places_in}

-- each place of some stands before each of others
abbrev pub StandBefore : List ℕ → List ℕ → Type 0
StandBefore us vs = (u v : ℕ) → Contains us u → Contains vs v → u < v

-- the cells that one value reads stand before those of another, or behind them
abbrev pub StandApart : Given → Given → Type 0
StandApart g h =
    StandBefore (expression_places g.value) (expression_places h.value)
    ⊎ StandBefore (expression_places h.value) (expression_places g.value)

-- A `new` stands before what its values read; the reads of each rise, and stand together.
pub record NewRises (n : Creation) : Type 0 where
  pub first : StandBefore (n.place ∷ []) (given_places n.labels)
  pub each : All (λ (g : Given). IsStrictlyIncreasing (expression_places g.value)) n.labels
  pub apart : AllPairs StandApart n.labels

-- the places of a statement rise
abbrev pub StatementRises : Statement → Type 0
StatementRises (Ends e) = IsStrictlyIncreasing (places_in (Ends e))
StatementRises (Does op) = IsStrictlyIncreasing (places_in (Does op))
StatementRises (Asks q) = IsStrictlyIncreasing (places_in (Asks q))
StatementRises (Makes n) = NewRises n

-- The places of each statement of a block rise, and stand before those of the statements behind it.
pub record PlacesRise (block : Block) : Type 0 where
  pub each : All StatementRises (statements block)
  pub between :
      AllPairs (λ s t. StandBefore (places_in s) (places_in t)) (statements block)
