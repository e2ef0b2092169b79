use Rattle.std.proofs.Common.{ℕ, suc, List, [], ◌∷◌, get_or, Fits, w32, arith}
use Rattle.std.specs.List.{AllByRecursion}
use Rattle.run_history.specs.Lines.{IsShort}
use Rattle.run_history.proofs.laws.are_short.Goals as goal

all_short : (xs : List ℕ) → ((i : ℕ) → Fits w32 (get_or xs i 0)) → AllByRecursion IsShort xs
all_short [] h = tt
all_short (x ∷ xs) h = (omega (arith, h 0), all_short xs (λ i. h (suc i)))

pub returns : goal.returns
returns c = all_short c.args.indices.now c.type_inv.indices
