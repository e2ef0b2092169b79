-- Vacant indices.
use Rattle.std.proofs.Common.{◌≡◌, ℕ, zero, suc, ◌<◌, true, false, List, [], ◌∷◌, length, get_or, refl, sym, arith, Option, Some, None, slice_get}
use Rattle.nf_base.specs.declared.state.Entry.{Entry}
use Rattle.nf_base.specs.declared.state.Chain.{Chain}
use Rattle.nf_base.specs.Chains.{chain_at, is_full, is_vacant}
use Rattle.nf_meaning.specs.Choices.{Choices, NextIs, least_vacant}
use Rattle.nf_meaning.proofs.Fronts.{next_front}

-- in a chain that is not full the least one is vacant
pub least_is_vacant : (slots : List (Option Entry)) → is_full slots ≡ false → is_vacant (slice_get slots (least_vacant slots)) ≡ true
least_is_vacant [] full = cc
least_is_vacant (None ∷ slots) full = refl
least_is_vacant (Some entry ∷ slots) full = least_is_vacant slots full

-- a chain that is not full is there
pub chain_there : (chains : List Chain) (k : ℕ) → is_full (chain_at chains k).slots ≡ false → k < length chains
chain_there [] k full = cc
chain_there (c ∷ cs) zero full = omega arith
chain_there (c ∷ cs) (suc k) full = let rest = chain_there cs k full in omega arith

-- a vacant index is one of the chain's
pub vacant_index : (slots : List (Option Entry)) (i : ℕ) → is_vacant (slice_get slots i) ≡ true → i < length slots
vacant_index [] i vacant = cc
vacant_index (s ∷ slots) zero vacant = omega arith
vacant_index (s ∷ slots) (suc i) vacant = let rest = vacant_index slots i vacant in omega arith

-- the index that a `new` tries where no choices are given
pub least_is_next : (choices : Choices) (taken : List ℕ) (slots : List (Option Entry)) (i : ℕ) → choices ≡ None → i ≡ least_vacant slots → is_full slots ≡ false → NextIs (Some i) choices taken slots
least_is_next choices taken slots i none least full =
    let vacant : is_vacant (slice_get slots i) ≡ true = rw least (least_is_vacant slots full) in
    rw none ((λ other. cc), λ all h. next_front taken i all h)

-- what stands where a chain is
pub chain_here : (chains : List Chain) (k : ℕ) (x : Chain) → k < length chains → x ≡ get_or chains k x → chain_at chains k ≡ x
chain_here [] k x lt is = absurd (omega arith)
chain_here (c ∷ cs) zero x lt is = sym is
chain_here (c ∷ cs) (suc k) x lt is = chain_here cs k x (omega arith) is
