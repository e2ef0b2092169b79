-- The list of a block's statements, one longer.
use Rattle.std.proofs.Common.{◌≡◌, List, [], ◌∷◌, ◌++◌, Bor, refl, ap, map}
use Rattle.nf_base.specs.declared.block.Block as block
use Rattle.nf_base.specs.Text.{Block}
use Rattle.nf_base.specs.View.{block_of}
use Rattle.nf_base.specs.Laid.{before, laid, block_seen}

pub one_more : (cs : List (Bor block.Block)) (c : Bor block.Block) (next : Block) → laid (map block_seen (cs ++ c ∷ [])) next ≡ laid (map block_seen cs) (before (block_of c.now) next)
one_more [] c next = refl
one_more (d ∷ cs) c next = ap (λ rest. before (block_of d.now) rest) (one_more cs c next)
