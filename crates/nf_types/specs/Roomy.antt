-- Chains and arrays within their limits, as facts.
use Rattle.std.specs.Prelude.{◌≡◌, ◌≤◌, ◌+◌, ◌*◌, ℕ, length}
use Rattle.nf_base.specs.declared.decl.ChainDecl.{ChainDecl}
use Rattle.nf_types.specs.declared.objects.Objects.{Objects}

-- a chain with so many fixed columns: at most 8 labels a map
pub record IsRoomy (fixed : ℕ) (d : ChainDecl) : Type 0 where
  pub labels : length d.labels ≤ 8 * length d.maps + fixed
  pub order : length d.order ≡ length d.labels + length d.columns
  pub columns : length d.columns ≤ 8
  pub maps : length d.maps ≤ 16

-- chains and arrays, of which each is one of the objects
pub record AreRoomy (o : Objects) : Type 0 where
  pub order : length o.order ≡ length o.chains + length o.arrays
  pub chains : length o.chains ≤ 8
  pub arrays : length o.arrays ≤ 8
