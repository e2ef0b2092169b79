-- The maps of some chains, and of one more.
use Rattle.std.proofs.Common.{◌≡◌, ◌+◌, List, [], ◌∷◌, ◌++◌, length, arith}
use Rattle.nf_base.specs.declared.decl.ChainDecl.{ChainDecl}
use Rattle.nf_base.specs.Limits.{maps_in}

pub maps_more : (ds : List ChainDecl) (d : ChainDecl) → maps_in (ds ++ d ∷ []) ≡ maps_in ds + length d.maps
maps_more [] d = omega arith
maps_more (e ∷ ds) d = omega (arith, maps_more ds d)
