-- Own and vacant indices of a chain.
use Rattle.std.proofs.Common.{◌≡◌, ℕ, zero, suc, ◌<◌, ◌%◌, Bool, true, false, List, [], ◌∷◌, Option, Some, None, slice_get, refl, arith, if◌then◌else◌}
use Rattle.std.proofs.lemmas.Bool.{false≢true}
use Rattle.std.proofs.Math.Nat.{mod-lt}
use Rattle.nf_base.specs.declared.share.Share.{Share}
use Rattle.nf_base.specs.declared.state.Entry.{Entry}
use Rattle.nf_base.specs.Chains.{is_full, is_vacant}
use Rattle.nf_base.specs.Shares.{owns, none_vacant}

-- an own index is vacant
pub some_vacant : (own : ℕ → Bool) (slots : List (Option Entry)) (i : ℕ) → own i ≡ true → is_vacant (slice_get slots i) ≡ true → none_vacant own slots ≡ false
some_vacant own [] i mine vacant = cc
some_vacant own (None ∷ slots) zero mine vacant = rw mine refl
some_vacant own (Some entry ∷ slots) zero mine vacant = cc
some_vacant own (None ∷ slots) (suc i) mine vacant = of (own 0) (some_vacant (λ k. own (suc k)) slots i mine vacant)
  where
    of : (b : Bool) → none_vacant (λ k. own (suc k)) slots ≡ false → (if b then false else none_vacant (λ k. own (suc k)) slots) ≡ false
    of true rest = refl
    of false rest = rest
some_vacant own (Some entry ∷ slots) (suc i) mine vacant = some_vacant (λ k. own (suc k)) slots i mine vacant

-- an index is vacant
pub not_full : (slots : List (Option Entry)) (i : ℕ) → is_vacant (slice_get slots i) ≡ true → is_full slots ≡ false
not_full [] i vacant = cc
not_full (None ∷ slots) i vacant = refl
not_full (Some entry ∷ slots) zero vacant = cc
not_full (Some entry ∷ slots) (suc i) vacant = not_full slots i vacant

-- an own index is vacant, so that some is
pub some_not_full : (own : ℕ → Bool) (slots : List (Option Entry)) → none_vacant own slots ≡ false → is_full slots ≡ false
some_not_full own [] some = cc
some_not_full own (None ∷ slots) some = refl
some_not_full own (Some entry ∷ slots) some = some_not_full (λ k. own (suc k)) slots some

-- where each index is own and none is vacant
pub all_full : (own : ℕ → Bool) (slots : List (Option Entry)) → ((i : ℕ) → own i ≡ true) → none_vacant own slots ≡ true → is_full slots ≡ true
all_full own [] mine none = refl
all_full own (None ∷ slots) mine none = absurd (false≢true (rw (mine 0) at none))
all_full own (Some entry ∷ slots) mine none = all_full (λ k. own (suc k)) slots (λ k. mine (suc k)) none

mod_one : (i : ℕ) → i % 1 ≡ 0
mod_one i = let below : i % 1 < 1 = mod-lt i (omega arith) in omega (arith, below)

-- the whole share owns each index
pub owns_all : (share : Share) → share.of ≡ 1 → (i : ℕ) → owns share i ≡ true
owns_all share whole i =
    let below = share.within.0 in
    let first : share.queue ≡ 0 = omega (arith, below, whole) in
    rw (whole, first, mod_one i) refl

-- where each index is own, none that is own is vacant exactly where all are taken
pub none_is_full : (own : ℕ → Bool) (slots : List (Option Entry)) → ((i : ℕ) → own i ≡ true) → none_vacant own slots ≡ is_full slots
none_is_full own [] mine = refl
none_is_full own (None ∷ slots) mine = rw (mine 0) refl
none_is_full own (Some entry ∷ slots) mine = none_is_full (λ k. own (suc k)) slots (λ k. mine (suc k))
