-- Sites that know the same labels, and the first of a list.
use Rattle.std.proofs.Common.{◌≡◌, ℕ, ◌+◌, ◌-◌, ◌<◌, suc, List, [], ◌∷◌, Bool, true, false, not, ◌&&◌, cond, filter, Some, None, refl, ap, sym, ◌∙◌, arith, inl, inr}
use Rattle.std.specs.List.{list_all, find, range_with_len}
use Rattle.std.proofs.lemmas.Bool.{cases_Bool}
use Rattle.access_keys.specs.declared.site.Site.{Site}
use Rattle.shard_rules.specs.Sites.{knows, know_alike, know_same, all_know_same}

-- a range begins with its first number
pub range_first : (a b : ℕ) → a < b → range_with_len a (b - a) ≡ a ∷ range_with_len (a + 1) (b - (a + 1))
range_first a b l = let e : b - a ≡ suc (b - (a + 1)) = omega arith in ap (range_with_len a) e

-- where none passes, none is left
pub none_left : {A : Type 0} (p : A → Bool) (xs : List A) → find p xs ≡ None → filter p xs ≡ []
none_left p [] h = refl
none_left p (x ∷ xs) h = elim (cases_Bool (p x)) [
  | inl e ↦ absurd (let bad : Some x ≡ None = rw e at h in cc)
  | inr e ↦ rw e (none_left p xs (rw e at h))
]

-- and else the first that passes is the first that is left
pub first_left : {A : Type 0} (p : A → Bool) (xs : List A) (x : A) → find p xs ≡ Some x → (rest : List A) × (filter p xs ≡ x ∷ rest)
first_left p [] x h = absurd (cc)
first_left p (y ∷ xs) x h = elim (cases_Bool (p y)) [
  | inl e ↦ let it : Some y ≡ Some x = rw e at h in let same : y ≡ x = cc in (filter p xs, rw e (ap (λ z. z ∷ filter p xs) same))
  | inr e ↦ let more = first_left p xs x (rw e at h) in (more.0, rw e more.1)
]

both : (a b : Bool) → (a && b) ≡ true → (a ≡ true) × (b ≡ true)
both true true h = (refl, refl)
both true false h = absurd (cc)
both false b h = absurd (cc)

alike_turned : (x a b : Site) (l : ℕ) → know_alike x a l ≡ true → know_alike x b l ≡ true → know_alike a b l ≡ true
alike_turned x a b l h k = turned (knows l x) (knows l a) (knows l b) h k
  where
    turned : (i j k : Bool) → cond i j (not j) ≡ true → cond i k (not k) ≡ true → cond j k (not k) ≡ true
    turned true true k h e = e
    turned true false k h e = absurd (cc)
    turned false true k h e = absurd (cc)
    turned false false k h e = e

same_turned : (labels : List ℕ) (x a b : Site) → know_same labels x a ≡ true → know_same labels x b ≡ true → know_same labels a b ≡ true
same_turned [] x a b h k = refl
same_turned (l ∷ labels) x a b h k =
    let first = both (know_alike x a l) (know_same labels x a) h in
    let second = both (know_alike x b l) (know_same labels x b) k in
    rw (alike_turned x a b l first.0 second.0) (same_turned labels x a b first.1 second.1)

as_first : (labels : List ℕ) (x a : Site) (sites : List Site) → know_same labels x a ≡ true → list_all (know_same labels x) sites ≡ true → list_all (know_same labels a) sites ≡ true
as_first labels x a [] h k = refl
as_first labels x a (b ∷ sites) h k =
    let parts = both (know_same labels x b) (list_all (know_same labels x) sites) k in
    rw (same_turned labels x a b h parts.0) (as_first labels x a sites h parts.1)

each_as_first : (labels : List ℕ) (x : Site) (some sites : List Site) → list_all (know_same labels x) some ≡ true → list_all (know_same labels x) sites ≡ true → list_all (λ a. list_all (know_same labels a) sites) some ≡ true
each_as_first labels x [] sites h k = refl
each_as_first labels x (a ∷ some) sites h k =
    let parts = both (know_same labels x a) (list_all (know_same labels x) some) h in
    rw (as_first labels x a sites parts.0 k) (each_as_first labels x some sites parts.1 k)

-- any two know the same exactly where each knows the same as the first
pub by_first : (labels : List ℕ) (x : Site) (sites : List Site) → all_know_same labels (x ∷ sites) ≡ list_all (know_same labels x) (x ∷ sites)
by_first labels x sites = elim (cases_Bool (list_all (know_same labels x) (x ∷ sites))) [
  | inl e ↦ each_as_first labels x (x ∷ sites) (x ∷ sites) e e ∙ sym e
  | inr e ↦ ap (λ b. b && list_all (λ a. list_all (know_same labels a) (x ∷ sites)) sites) e ∙ sym e
]

-- the same, where the first is told by an equation
pub by_first_of : (labels : List ℕ) (x : Site) (rest sites : List Site) → sites ≡ x ∷ rest → list_all (know_same labels x) sites ≡ all_know_same labels sites
by_first_of labels x rest sites e = rw e (sym (by_first labels x rest))
