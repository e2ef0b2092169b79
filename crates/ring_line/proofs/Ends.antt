-- What is left in a ring once the end of work came out.
use Rattle.std.proofs.Common.{◌≡◌, List, [], ◌∷◌, ◌++◌, map, refl, arith}
use Rattle.ring_line.specs.declared.item.Item.{Item}
use Rattle.ring_line.specs.declared.item.Item.TheVariants.{End}
use Rattle.ring_line.specs.Packs.{Packed}
use Rattle.ring_line.specs.WorkerLoops.{as_work, closed}

-- it came out last, and it was put in last alone: all packs came out
pub all_out : (ps qs : List Packed) (rest : List Item) → closed qs ++ rest ≡ map as_work ps ++ End ∷ [] → qs ≡ ps
all_out [] [] rest e = refl
all_out [] (q ∷ qs) rest e = grind arith
all_out (p ∷ ps) [] rest e = grind arith
all_out (p ∷ ps) (q ∷ qs) rest e =
    let tails : closed qs ++ rest ≡ map as_work ps ++ End ∷ [] = grind arith in
    let again = all_out ps qs rest tails in
    grind arith
