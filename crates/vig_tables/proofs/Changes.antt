-- Values of a list that are changed one after another.
use Rattle.std.proofs.Common.{◌≡◌, ◌∙◌, ap, refl, subst, arith, ℕ, suc, ◌+◌, inl, inr, ◌<◌, List, [], ◌∷◌, length, get_or, map}
use Rattle.std.specs.Prelude.{All, ◌≤◌, slice_index_or, slice_set}
use Rattle.std.proofs.lemmas.List.{get_or-set_same, get_or-set_other, get_or_default, length-set}
use Rattle.std.proofs.lemmas.Bool.{cases_eq}
use Rattle.std.specs.List.{AllZip}
use Rattle.std.proofs.lemmas.List.Elements.{All-nil, All-cons, All-head, All-tail}

-- the first so many values are changed in one way, and the others not
pub record AreChangedBelow {A : Type 0} (n : ℕ) (Changed : A → A → Type 0)
    (old new : List A) : Type 0 where
  pub count : length new ≡ length old
  pub each :
      (k : ℕ) (d : A) → k < n → k < length old
      → Changed (slice_index_or old k d) (slice_index_or new k d)
  pub rest : (k : ℕ) (d : A) → n ≤ k → slice_index_or new k d ≡ slice_index_or old k d

-- where each value is changed, all are
pub all_changed :
    {A : Type 0} (Changed : A → A → Type 0) (old new : List A) → length new ≡ length old
    → ((k : ℕ) (d : A) → k < length old → Changed (get_or old k d) (get_or new k d))
    → AllZip Changed old new
all_changed Changed [] [] same each = tt
all_changed Changed [] (y ∷ new) same each = absurd (omega arith)
all_changed Changed (x ∷ old) [] same each = absurd (omega arith)
all_changed Changed (x ∷ old) (y ∷ new) same each = (each 0 x (omega arith), all_changed Changed old new (omega (arith, same)) (λ k d lt. each (suc k) d (omega arith)))

-- what is true of each value after a change
pub true_after :
    {A : Type 0} (P Q : A → Type 0) (Changed : A → A → Type 0) (old new : List A)
    → ((x y : A) → P x → Changed x y → Q y) → All P old → AllZip Changed old new → All Q new
true_after P Q Changed [] [] step all changed = All-nil Q
true_after P Q Changed [] (y ∷ new) step all changed = absurd changed
true_after P Q Changed (x ∷ old) [] step all changed = absurd changed
true_after P Q Changed (x ∷ old) (y ∷ new) step all changed =
    All-cons Q y new (step x y (All-head P x old all) changed.0) (true_after P Q Changed old new step (All-tail P x old all) changed.1)

-- what a change keeps of each value
pub same_after :
    {A B : Type 0} (f : A → B) (Changed : A → A → Type 0) (old new : List A)
    → ((x y : A) → Changed x y → f y ≡ f x) → AllZip Changed old new → map f new ≡ map f old
same_after f Changed [] [] step changed = refl
same_after f Changed [] (y ∷ new) step changed = absurd changed
same_after f Changed (x ∷ old) [] step changed = absurd changed
same_after {A} {B} f Changed (x ∷ old) (y ∷ new) step changed =
    ap (λ (b : B). b ∷ map f new) (step x y changed.0) ∙ ap (λ (bs : List B). f x ∷ bs) (same_after f Changed old new step changed.1)

-- one more is changed
pub changed_next :
    {A : Type 0} (Changed : A → A → Type 0) (old new : List A) (k : ℕ) (x v : A)
    → AreChangedBelow k Changed old new → k < length new → x ≡ get_or new k x → Changed x v
    → AreChangedBelow (k + 1) Changed old (slice_set new k v)
changed_next {A} Changed old new k x v b lt is step = record {
  count = length-set new k v ∙ b.count;
  each = λ j d low within. elim (cases_eq j k) [
    | inl e ↦ rw (e, get_or-set_same new k v d lt) (subst (λ (y : A). Changed y v) (is ∙ b.rest k x (omega arith) ∙ get_or_default old k x d (omega (arith, b.count))) step)
    | inr ne ↦ rw (get_or-set_other new k j v d ne) (b.each j d (omega arith) within)
  ];
  rest = λ j d ge. get_or-set_other new k j v d (omega arith) ∙ b.rest j d (omega arith);
}
