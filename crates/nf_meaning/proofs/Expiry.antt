-- The chains without what is past its lifetime, one more.
use Rattle.std.proofs.Common.{◌≡◌, ℕ, zero, suc, ◌+◌, ◌<◌, List, [], ◌∷◌, ◌++◌, length, take, get_or, add-one, refl, ap, arith}
use Rattle.nf_base.specs.declared.state.Chain.{Chain}
use Rattle.nf_base.specs.Chains.{unexpired, expired}

pub one_more_chain : (time : ℕ) (lifetime : ℕ → ℕ) (chains : List Chain) (k : ℕ) (chain : Chain) → k < length chains → chain ≡ get_or chains k chain → expired time lifetime (take (k + 1) chains) ≡ expired time lifetime (take k chains) ++ unexpired time (lifetime k) chain ∷ []
one_more_chain time lifetime [] k chain lt is = absurd (omega arith)
one_more_chain time lifetime (c ∷ cs) zero chain lt is = rw is refl
one_more_chain time lifetime (c ∷ cs) (suc k) chain lt is =
    rw (add-one (suc k))
    (ap (λ rest. unexpired time (lifetime 0) c ∷ rest)
    (rw (add-one k) at (one_more_chain time (λ j. lifetime (suc j)) cs k chain (omega arith) is)))
