use Rattle.std.proofs.Common.{◌≤◌, ◌∙◌, ◌∷◌, [], ℕ, List, ap, take, arith}
use Rattle.std.proofs.lemmas.List.{take-replicate}
use Rattle.pcapng_file.specs.Written.{padding}
use Rattle.pcapng_file.proofs.writing.zeros.Goals as goal

pub returns : goal.returns
returns c =
    let few : padding c.args.captured ≤ 3 = omega (arith, c.padding.ensures.value, c.padding.ensures.few) in
    let none : ℕ = 0 in
    ap (λ (n : ℕ). take n (none ∷ none ∷ none ∷ [])) c.padding.ensures.value ∙ take-replicate (padding c.args.captured) 3 none few
