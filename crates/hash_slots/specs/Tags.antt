-- What slots are seen as, and what a change of them is.
use Rattle.std.specs.Prelude.{◌≡◌, ◌≢◌, ℕ, ◌+◌, ◌*◌, ◌<◌, ◌≤◌, ◌↔◌, List, length, Option, Contains}
use Rattle.std.specs.Int.{IsPowerOfTwo}
use Rattle.hash_slots.specs.declared.cells.Pair.{Pair}
use Rattle.hash_slots.specs.Places.{AreMet, pairs_of}

-- the pairs of a tag and an index, in an order of which nothing is said, and how many may stand
pub record Tags : Type 0 where
  pub pairs : List Pair
  pub most : ℕ

-- tags by their pairs
abbrev pub tags_of : List Pair → ℕ → Tags
tags_of pairs most = record { pairs = pairs; most = most }

-- a pair by its parts
abbrev pub pair_of : ℕ → ℕ → Pair
pair_of tag index = record { tag = tag; index = index }

-- a tag stands with an index
abbrev pub Holds : Tags → ℕ → ℕ → Type 0
Holds tags tag index = Contains tags.pairs (pair_of tag index)

-- A pair is put, and nothing else changes.
pub record IsPut (pair : Pair) (old new : Tags) : Type 0 where
  pub there : Contains new.pairs pair
  pub others : (other : Pair) → other ≢ pair → (Contains new.pairs other ↔ Contains old.pairs other)
  pub count : length new.pairs ≡ length old.pairs + 1
  pub most : new.most ≡ old.most

-- A pair is taken out, and nothing else changes.
pub record IsErased (pair : Pair) (old new : Tags) : Type 0 where
  pub gone : Contains new.pairs pair → ⊥
  pub others : (other : Pair) → other ≢ pair → (Contains new.pairs other ↔ Contains old.pairs other)
  pub count : length old.pairs ≡ length new.pairs + 1
  pub most : new.most ≡ old.most

-- What is true of the fields: so many slots in which searches begin, the least power of two that is
-- twice as many as pairs may stand, and one slot behind for each of these; and each pair where its
-- search comes to it.
pub record AreSound (slots : List (Option Pair)) (mask held most : ℕ) : Type 0 where
  pub some : 1 ≤ most
  pub limit : most ≤ 65536
  pub power : IsPowerOfTwo (mask + 1)
  pub wide : 2 * most ≤ mask + 1
  pub narrow : mask + 1 < 4 * most
  pub room : length slots ≡ mask + 1 + most
  pub met : AreMet mask slots
  pub count : length (pairs_of slots) ≡ held
  pub within : held ≤ most
