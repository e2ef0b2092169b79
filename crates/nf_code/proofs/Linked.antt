-- The statements of a block, one behind the other.
use Rattle.std.proofs.Common.{◌≡◌, List, [], ◌∷◌, ◌++◌, Bor, refl, ap, map}
use Rattle.nf_base.specs.declared.block.Block as block
use Rattle.nf_base.specs.Text.{Block}
use Rattle.nf_base.specs.View.{block_of}
use Rattle.nf_base.specs.Laid.{block_seen}
use Rattle.nf_code.specs.Followed.{first_followed, linked}

pub one_more : (cs : List (Bor block.Block)) (c : Bor block.Block) (next : Block) → linked (map block_seen (cs ++ c ∷ [])) next ≡ linked (map block_seen cs) (first_followed (block_of c.now) next)
one_more [] c next = refl
one_more (d ∷ cs) c next = ap (λ rest. first_followed (block_of d.now) rest) (one_more cs c next)
