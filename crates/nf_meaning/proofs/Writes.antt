-- Writes to a slot that holds no entry.
use Rattle.std.proofs.Common.{◌≡◌, ℕ, ◌<◌, List, Option, None, length, get_or, set, ap, ◌∙◌, refl}
use Rattle.std.proofs.lemmas.List.{set-get_or}
use Rattle.std.proofs.lemmas.Option.{slice_get_read}
use Rattle.nf_base.specs.declared.state.Entry.{Entry}
use Rattle.nf_base.specs.declared.state.Chain.{Chain}
use Rattle.nf_base.specs.Chains.{touched, written}

-- what stands at an index, written there again
set_same : {X : Type 0} (xs : List X) (i : ℕ) (x : X) → x ≡ get_or xs i x → set xs i x ≡ xs
set_same xs i x same = ap (set xs i) same ∙ set-get_or xs i x

pub no_touch : (time i : ℕ) (chain : Chain) (x : Option Entry) → i < length chain.slots → x ≡ get_or chain.slots i x → x ≡ None → record chain { slots = set chain.slots i x } ≡ touched time i chain
no_touch time i chain x lt same none =
    rw (slice_get_read chain.slots (length chain.slots) i x refl lt same) (rw none (rw (← none) (ap (λ (ss : List (Option Entry)). record chain { slots = ss }) (set_same chain.slots i x same))))

pub no_write : (column v i : ℕ) (chain : Chain) (x : Option Entry) → i < length chain.slots → x ≡ get_or chain.slots i x → x ≡ None → record chain { slots = set chain.slots i x } ≡ written column v i chain
no_write column v i chain x lt same none =
    rw (slice_get_read chain.slots (length chain.slots) i x refl lt same) (rw none (rw (← none) (ap (λ (ss : List (Option Entry)). record chain { slots = ss }) (set_same chain.slots i x same))))
