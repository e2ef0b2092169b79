-- Choices that begin with those that were taken.
use Rattle.std.proofs.Common.{◌≡◌, ℕ, List, [], ◌∷◌, ◌++◌, length, take, drop, refl, ap, Some, None}
use Rattle.nf_meaning.specs.Choices.{Choices, MayBe, AreGiven}

-- the choice after those that were taken before it
pub next_front : (taken : List ℕ) (i : ℕ) (all : List ℕ) → take (length (taken ++ i ∷ [])) all ≡ taken ++ i ∷ [] → (take (length taken) all ≡ taken) × (drop (length taken) all ≡ i ∷ drop (length (taken ++ i ∷ [])) all)
next_front [] i [] h = cc
next_front [] i (x ∷ xs) h = let same : x ≡ i = cc in (refl, rw same refl)
next_front (y ∷ ys) i [] h = cc
next_front (y ∷ ys) i (x ∷ xs) h =
    let same : x ≡ y = cc in
    let rest : take (length (ys ++ i ∷ [])) xs ≡ ys ++ i ∷ [] = cc in
    let front = next_front ys i xs rest in
    (rw same (ap (λ zs. y ∷ zs) front.0), front.1)

-- choices that are given are the same whatever was taken
pub given_any : (choices : Choices) (taken others all : List ℕ) → AreGiven choices → MayBe choices taken all → MayBe choices others all
given_any None taken others all given h = absurd given
given_any (Some choices) taken others all given h = h
