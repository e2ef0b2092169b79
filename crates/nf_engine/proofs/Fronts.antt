-- Choices that are taken one after another.
use Rattle.std.proofs.Common.{◌≡◌, ◌∙◌, ℕ, zero, suc, ◌+◌, add-one, List, [], ◌∷◌, ◌++◌, length, take, drop, refl, ap, arith, Some, None, slice_get}
use Rattle.std.proofs.Math.Seq.{take-add}
use Rattle.std.proofs.lemmas.List.Folds.{list_all-append}
use Rattle.nf_base.specs.Shares.{owns}
use Rattle.nf_base.specs.declared.share.Share.{Share}
use Rattle.std.specs.Prelude.{IsTrue}
use Rattle.nf_engine.specs.Choices.{are_own}

-- where one more is taken
pub more_taken : (taken : List ℕ) (i : ℕ) → length (taken ++ i ∷ []) ≡ length taken + 1
more_taken [] i = refl
more_taken (x ∷ xs) i = let rest = more_taken xs i in omega (arith, rest)

-- the choice after those that were taken before it
pub next_front : (taken : List ℕ) (i : ℕ) (all : List ℕ) → take (length (taken ++ i ∷ [])) all ≡ taken ++ i ∷ [] → (take (length taken) all ≡ taken) × (drop (length taken) all ≡ i ∷ drop (length (taken ++ i ∷ [])) all)
next_front [] i [] h = cc
next_front [] i (x ∷ xs) h = let same : x ≡ i = cc in (refl, rw same refl)
next_front (y ∷ ys) i [] h = cc
next_front (y ∷ ys) i (x ∷ xs) h =
    let same : x ≡ y = cc in
    let rest : take (length (ys ++ i ∷ [])) xs ≡ ys ++ i ∷ [] = cc in
    let front = next_front ys i xs rest in
    (rw same (ap (λ zs. y ∷ zs) front.0), front.1)

-- what stands at a number comes first behind those before it
pub next_at : (xs : List ℕ) (n i : ℕ) → slice_get xs n ≡ Some i → drop n xs ≡ i ∷ drop (suc n) xs
next_at [] n i e = cc
next_at (x ∷ xs) zero i e = let same : x ≡ i = cc in rw same refl
next_at (x ∷ xs) (suc n) i e = next_at xs n i e

-- the choice at a number
pub next_given : (xs taken : List ℕ) (i : ℕ) → slice_get xs (length taken) ≡ Some i → drop (length taken) xs ≡ i ∷ drop (length (taken ++ i ∷ [])) xs
next_given xs taken i e = rw (more_taken taken i, add-one (length taken)) (next_at xs (length taken) i e)

-- there is none at a number
pub none_next : (xs : List ℕ) (n : ℕ) → slice_get xs n ≡ None → drop n xs ≡ []
none_next [] zero e = refl
none_next [] (suc n) e = refl
none_next (x ∷ xs) zero e = cc
none_next (x ∷ xs) (suc n) e = none_next xs n e

-- one more that is own
pub one_more_own : (share : Share) (taken : List ℕ) (i : ℕ) (all : List ℕ) → drop (length taken) all ≡ i ∷ drop (length (taken ++ i ∷ [])) all → IsTrue (owns share i) → IsTrue (are_own share (take (length taken) all)) → IsTrue (are_own share (take (length (taken ++ i ∷ [])) all))
one_more_own share taken i all next own before =
    let front : take (length (taken ++ i ∷ [])) all ≡ take (length taken) all ++ i ∷ [] = ap (λ n. take n all) (more_taken taken i) ∙ take-add (length taken) 1 all ∙ ap (λ xs. take (length taken) all ++ take 1 xs) next in
    ap (are_own share) front ∙ list_all-append (owns share) (take (length taken) all) (i ∷ []) ∙ rw (before, own) refl
