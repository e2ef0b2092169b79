-- Entries that are past their lifetime.
use Rattle.std.proofs.Common.{◌≡◌, ◌∙◌, ap, sym, refl, ℕ, zero, suc, ◌+◌, Bool, true, false, List, [], ◌∷◌, map, inl, inr}
use Rattle.std.specs.Prelude.{Option, Some, None, slice_set, MatchBool, not, nat_lt}
use Rattle.std.proofs.lemmas.Bool.{cases_Bool, false≢true, cond-true, cond-false, false_from_ne_true}
use Rattle.nf_base.specs.declared.state.Entry.{Entry}
use Rattle.nf_base.specs.Chains.{entry_at, alive, is_due, none_due}

pub kept_past :
    (time lifetime : ℕ) (s : Option Entry) → is_due time lifetime s ≡ true
    → alive time lifetime s ≡ None
kept_past time lifetime None past = refl
kept_past time lifetime (Some e) past = cond-true (nat_lt (e.stamp + lifetime) time) None (Some e) past

pub kept_within :
    (time lifetime : ℕ) (s : Option Entry) → is_due time lifetime s ≡ false
    → alive time lifetime s ≡ s
kept_within time lifetime None within = refl
kept_within time lifetime (Some e) within = cond-false (nat_lt (e.stamp + lifetime) time) None (Some e) within

-- what expires may as well be gone already
pub kept_freed :
    (time lifetime : ℕ) (slots : List (Option Entry)) (i : ℕ)
    → is_due time lifetime (entry_at slots i) ≡ true
    → map (alive time lifetime) (slice_set slots i None) ≡ map (alive time lifetime) slots
kept_freed time lifetime [] i past = refl
kept_freed time lifetime (s ∷ slots) zero past = ap (λ (x : Option Entry). x ∷ map (alive time lifetime) slots) (sym (kept_past time lifetime s past))
kept_freed time lifetime (s ∷ slots) (suc i) past = ap (λ (rest : List (Option Entry)). alive time lifetime s ∷ rest) (kept_freed time lifetime slots i past)

-- where nothing expires all stays
pub kept_all :
    (time lifetime : ℕ) (slots : List (Option Entry))
    → ((i : ℕ) → is_due time lifetime (entry_at slots i) ≡ true → ⊥)
    → map (alive time lifetime) slots ≡ slots
kept_all time lifetime [] none = refl
kept_all time lifetime (s ∷ slots) none =
    ap (λ (x : Option Entry). x ∷ map (alive time lifetime) slots) (kept_within time lifetime s (false_from_ne_true (is_due time lifetime s) (none 0)))
    ∙ ap (λ (rest : List (Option Entry)). s ∷ rest) (kept_all time lifetime slots (λ i. none (suc i)))

some_past :
    (time lifetime : ℕ) (slots : List (Option Entry)) (i : ℕ)
    → is_due time lifetime (entry_at slots i) ≡ true → none_due time lifetime slots ≡ false
some_past time lifetime [] i past = absurd (false≢true past)
some_past time lifetime (s ∷ slots) zero past = cond-true (is_due time lifetime s) false (none_due time lifetime slots) past
some_past time lifetime (s ∷ slots) (suc i) past = elim (cases_Bool (is_due time lifetime s)) [
  | inl e ↦ cond-true (is_due time lifetime s) false (none_due time lifetime slots) e
  | inr e ↦ cond-false (is_due time lifetime s) false (none_due time lifetime slots) e ∙ some_past time lifetime slots i past
]

all_within :
    (time lifetime : ℕ) (slots : List (Option Entry))
    → ((i : ℕ) → is_due time lifetime (entry_at slots i) ≡ true → ⊥)
    → none_due time lifetime slots ≡ true
all_within time lifetime [] none = refl
all_within time lifetime (s ∷ slots) none =
    cond-false (is_due time lifetime s) false (none_due time lifetime slots) (false_from_ne_true (is_due time lifetime s) (none 0))
    ∙ all_within time lifetime slots (λ i. none (suc i))

-- whether some entry is past its lifetime
pub due_is :
    (time lifetime : ℕ) (slots : List (Option Entry)) (b : Bool)
    → MatchBool b ((i : ℕ) × (is_due time lifetime (entry_at slots i) ≡ true)) ((i : ℕ) → is_due time lifetime (entry_at slots i) ≡ true → ⊥)
    → b ≡ not (none_due time lifetime slots)
due_is time lifetime slots true some = sym (ap (λ (b : Bool). not b) (some_past time lifetime slots some.0 some.1))
due_is time lifetime slots false none = sym (ap (λ (b : Bool). not b) (all_within time lifetime slots none))
