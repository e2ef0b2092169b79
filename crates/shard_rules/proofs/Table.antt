-- The table of the rules.
use Rattle.std.proofs.Common.{◌≡◌, ◌≢◌, ℕ, List, [], ◌∷◌, Bool, true, false, not, ◌&&◌, cond, if◌then◌else◌, Contains, refl, ap, sym, ◌∙◌, subst, inl, inr}
use Rattle.std.specs.List.{list_any, list_all}
use Rattle.std.proofs.lemmas.Bool.{cases_Bool, true≢false}
use Rattle.nf_sites.specs.declared.sort.Sort.{Sort}
use Rattle.nf_sites.specs.declared.sort.Sort.TheVariants.{Get, Find, New, Name, Load, Store}
use Rattle.nf_laws.proofs.Listed.{here, there}
use Rattle.nf_sites.proofs.Lists.{any_true, any_has, all_has, all_true}
use Rattle.access_keys.specs.declared.site.Site.{Site}
use Rattle.shard_rules.specs.declared.rule.Rule.{Rule}
use Rattle.shard_rules.specs.declared.rule.Rule.TheVariants.{SameKey, Subset, DisjointKeys, Unhashable, Interchangeable}
use Rattle.shard_rules.specs.Sites.{knows, knows_one, know_alike, know_same, all_know_same, is_find_sort, is_find}
use Rattle.shard_rules.specs.Rules.{rule_of}
use Rattle.shard_rules.specs.Laws.{KnowsOne, AllKnowTheSame, HasFind, Fits, OneRuleFits}

-- what isn't so of all fails at one
all_fails : {A : Type 0} (test : A → Bool) (xs : List A) → list_all test xs ≡ false → (x : A) × Contains xs x × (test x ≡ false)
all_fails test [] e = absurd (cc)
all_fails {A} test (y ∷ xs) e = split (test y) refl e (all_fails test xs)
  where
    split : (b : Bool) → test y ≡ b → (b && list_all test xs) ≡ false → (list_all test xs ≡ false → (x : A) × Contains xs x × (test x ≡ false)) → (x : A) × Contains (y ∷ xs) x × (test x ≡ false)
    split true q e rest = let w = rest e in (w.0, there y xs w.0 w.1, w.2)
    split false q e rest = (y, here y xs, q)

not_both : {b : Bool} → b ≡ true → b ≡ false → ⊥
not_both h k = true≢false (sym h ∙ k)

one_is : (labels : List ℕ) (s : Site) → knows_one labels s ≡ true → KnowsOne labels s
one_is labels s e =
    let w = any_has (λ l. knows l s) labels e in
    record { label = w.0; among = w.1; known = w.2 }

is_one : (labels : List ℕ) (s : Site) → KnowsOne labels s → knows_one labels s ≡ true
is_one labels s w = any_true (λ l. knows l s) labels w.label w.among w.known

none_is : (labels : List ℕ) (s : Site) → knows_one labels s ≡ false → (l : ℕ) → Contains labels l → knows l s ≡ false
none_is labels s e l i = elim (cases_Bool (knows l s)) [
  | inl h ↦ absurd (not_both (any_true (λ m. knows m s) labels l i h) e)
  | inr h ↦ h
]

alike_is : (i j : Bool) → cond i j (not j) ≡ true → i ≡ j
alike_is true true e = refl
alike_is true false e = sym e
alike_is false true e = e
alike_is false false e = refl

is_alike : (i j : Bool) → i ≡ j → cond i j (not j) ≡ true
is_alike true true e = refl
is_alike true false e = sym e
is_alike false true e = e
is_alike false false e = refl

same_is : (labels : List ℕ) (sites : List Site) → all_know_same labels sites ≡ true → AllKnowTheSame labels sites
same_is labels sites e a b i j l k =
    alike_is (knows l a) (knows l b)
    (all_has (know_alike a b) labels l
    (all_has (know_same labels a) sites b
    (all_has (λ x. list_all (know_same labels x) sites) sites a e i) j) k)

is_same : (labels : List ℕ) (sites : List Site) → AllKnowTheSame labels sites → all_know_same labels sites ≡ true
is_same labels sites h =
    all_true (λ x. list_all (know_same labels x) sites) sites
    (λ a i. all_true (know_same labels a) sites
    (λ b j. all_true (know_alike a b) labels
    (λ l k. is_alike (knows l a) (knows l b) (h a b i j l k))))

find_is : (r : Sort) → is_find_sort r ≡ true → r ≡ Find
find_is (Get m) e = absurd (true≢false (sym e))
find_is Find e = refl
find_is New e = absurd (true≢false (sym e))
find_is (Name m) e = absurd (true≢false (sym e))
find_is Load e = absurd (true≢false (sym e))
find_is Store e = absurd (true≢false (sym e))

has_find : (sites : List Site) → list_any is_find sites ≡ true → HasFind sites
has_find sites e =
    let w = any_has is_find sites e in
    record { site = w.0; among = w.1; sort = find_is w.0.sort w.2 }

find_there : (sites : List Site) → HasFind sites → list_any is_find sites ≡ true
find_there sites w = any_true is_find sites w.site w.among (ap is_find_sort w.sort)

no_find : (sites : List Site) → (HasFind sites → ⊥) → list_any is_find sites ≡ false
no_find sites h = elim (cases_Bool (list_any is_find sites)) [
  | inl e ↦ absurd (h (has_find sites e))
  | inr e ↦ e
]

-- the rule fits: where no label is kept
none_kept : (labels : List ℕ) (sites : List Site) (b : Bool) → list_all (knows_one labels) sites ≡ b → Fits (if b then DisjointKeys else Unhashable) labels sites []
none_kept labels sites true e = (refl, λ s i. one_is labels s (all_has (knows_one labels) sites s e i))
none_kept labels sites false e =
    let w = all_fails (knows_one labels) sites e in
    (refl, record { site = w.0; among = w.1; none = none_is labels w.0 w.2 })

some_kept : (l : ℕ) (kept : List ℕ) → l ∷ kept ≢ []
some_kept l kept e = cc

-- where some are
kept_some : (labels : List ℕ) (sites : List Site) (l : ℕ) (kept : List ℕ) (a b : Bool) → list_any is_find sites ≡ a → all_know_same labels sites ≡ b → Fits (if a then Interchangeable else if b then SameKey else Subset) labels sites (l ∷ kept)
kept_some labels sites l kept true b e h = (some_kept l kept, has_find sites e)
kept_some labels sites l kept false true e h = (some_kept l kept, (λ w. not_both (find_there sites w) e), same_is labels sites h)
kept_some labels sites l kept false false e h = (some_kept l kept, (λ w. not_both (find_there sites w) e), λ w. not_both (is_same labels sites w) h)

it_fits : (labels : List ℕ) (sites : List Site) (kept : List ℕ) → Fits (rule_of labels sites kept) labels sites kept
it_fits labels sites [] = none_kept labels sites (list_all (knows_one labels) sites) refl
it_fits labels sites (l ∷ kept) = kept_some labels sites l kept (list_any is_find sites) (all_know_same labels sites) refl refl

-- and no other one
one_fits : (rule : Rule) (labels : List ℕ) (sites : List Site) (kept : List ℕ) → Fits rule labels sites kept → rule_of labels sites kept ≡ rule
one_fits SameKey labels sites [] h = absurd (h.0 refl)
one_fits SameKey labels sites (l ∷ kept) h = rw (no_find sites h.1, is_same labels sites h.2) refl
one_fits Subset labels sites [] h = absurd (h.0 refl)
one_fits Subset labels sites (l ∷ kept) h = elim (cases_Bool (all_know_same labels sites)) [
  | inl e ↦ absurd (h.2 (same_is labels sites e))
  | inr e ↦ rw (no_find sites h.1, e) refl
]
one_fits DisjointKeys labels sites [] h = rw (all_true (knows_one labels) sites (λ s i. is_one labels s (h.1 s i))) refl
one_fits DisjointKeys labels sites (l ∷ kept) h = absurd (some_kept l kept h.0)
one_fits Unhashable labels sites [] h = elim (cases_Bool (list_all (knows_one labels) sites)) [
  | inl e ↦
      let w = one_is labels h.1.site (all_has (knows_one labels) sites h.1.site e h.1.among) in
      absurd (not_both w.known (h.1.none w.label w.among))
  | inr e ↦ rw e refl
]
one_fits Unhashable labels sites (l ∷ kept) h = absurd (some_kept l kept h.0)
one_fits Interchangeable labels sites [] h = absurd (h.0 refl)
one_fits Interchangeable labels sites (l ∷ kept) h = rw (find_there sites h.1) refl

pub one_rule : OneRuleFits
one_rule rule labels sites kept =
    (one_fits rule labels sites kept, λ e. subst (λ (r : Rule). Fits r labels sites kept) e (it_fits labels sites kept))
