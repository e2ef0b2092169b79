-- Blocks within the limits, as facts.
use Rattle.std.specs.Prelude.{◌≤◌, List, [], ◌∷◌}
use Rattle.nf_tree.specs.Tree.{Block, Handler}
use Rattle.nf_types.specs.Counts.{news, lookups}

-- at most 16 `new`, and at most 32 of `get`, `find` and `new` together
pub record IsSmall (b : Block) : Type 0 where
  pub news : news b ≤ 16
  pub lookups : lookups b ≤ 32

-- the same of the block of each handler
abbrev pub AreSmall : List Handler → Type 0
AreSmall [] = Unit {0}
AreSmall (h ∷ hs) = IsSmall h.block × AreSmall hs
