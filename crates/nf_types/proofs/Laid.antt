-- The list of a block's statements, one longer.
use Rattle.std.proofs.Common.{◌≡◌, List, [], ◌∷◌, ◌++◌, refl, ap}
use Rattle.nf_base.specs.Text.{Block}
use Rattle.nf_types.specs.declared.part.Part.{Part}
use Rattle.nf_types.specs.Parts.{in_front, laid}

pub one_more : (ps : List Part) (p : Part) (next : Block) → laid (ps ++ p ∷ []) next ≡ laid ps (in_front p next)
one_more [] p next = refl
one_more (q ∷ ps) p next = ap (in_front q) (one_more ps p next)
