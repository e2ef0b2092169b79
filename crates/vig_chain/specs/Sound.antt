-- What is true of a chain's fields.
use Rattle.std.specs.Prelude.{◌≡◌, ℕ, ◌+◌, ◌<◌, ◌≤◌, IsTrue, length, Some, slice_index}
use Rattle.nf_base.specs.Shares.{owns}
use Rattle.vig_chain.specs.Stamps.{Stamps, stamp_of, NoneAbove}
use Rattle.vig_chain.specs.Rings.{Rings, AreLinked}

-- Each cell's links lead to cells.
pub record LinksInRange (rings : Rings) : Type 0 where
  pub same : length rings.prev ≡ length rings.next
  pub next_within : (j : ℕ) → j < length rings.next → slice_index rings.next j < length rings.next
  pub prev_within : (j : ℕ) → j < length rings.next → slice_index rings.prev j < length rings.next

-- The entries stand in the one ring in the order of their stamps, and the available indices in the
-- other.
pub record IsSoundChain (size : ℕ) (chain : Stamps) (rings : Rings) : Type 0 where
  pub slots : length chain.slots ≡ size
  pub most : size ≤ 65536
  pub cells : length rings.next ≡ size + 2
  pub linked : AreLinked size (owns chain.share) chain.slots rings
  pub sorted :
      (j k s u : ℕ) → stamp_of chain.slots j ≡ Some s → stamp_of chain.slots k ≡ Some u
      → linked.rank j ≤ linked.rank k → s ≤ u
  pub under : NoneAbove chain.greatest chain
  pub own : (j s : ℕ) → stamp_of chain.slots j ≡ Some s → IsTrue (owns chain.share j)
