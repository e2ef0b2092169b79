-- Kinds of statements, and the objects of a function.
use Rattle.std.proofs.Common.{◌≡◌, ◌↔◌, ◌<◌, ◌≤◌, ◌+◌, ℕ, zero, suc, true, List, [], ◌∷◌, length, Contains, Option, Some, None, refl, ap, sym, ◌∙◌, subst, arith, ◌⊎◌, inl, inr}
use Rattle.std.specs.List.{filter_map, cons_option, range_with_len}
use Rattle.std.proofs.lemmas.Option.{same_Some}
use Rattle.nf_base.specs.declared.decl.ObjectId.{ObjectId}
use Rattle.nf_base.specs.declared.decl.ObjectId.TheVariants as object
use Rattle.nf_base.specs.Text.{Question, Get, Find, Test}
use Rattle.nf_base.specs.Statements.{Statement, Ends, Does, Asks, Makes, is_new, is_entry_question, is_lookup}
use Rattle.nf_base.specs.Objects.{chain_number, array_number}
use Rattle.nf_laws.specs.Statements.{IsNew, makes, LooksUp, gets, finds, makes_too, StatementsAreCounted, ObjectsAreListed}
use Rattle.nf_laws.proofs.Listed.{here, there, has, has_none}

new_is : (s : Statement) → is_new s ≡ true → IsNew s
new_is (Ends e) q = cc
new_is (Does op) q = cc
new_is (Asks a) q = cc
new_is (Makes n) q = makes n

is_one : (s : Statement) → IsNew s → is_new s ≡ true
is_one s (makes n) = refl

question_is : (a : Question) → is_entry_question a ≡ true → LooksUp (Asks a)
question_is (Get place chain m key var) q = gets place chain m key var
question_is (Find place chain at guards var) q = finds place chain at guards var
question_is (Test place comparison l r) q = cc

lookup_is : (s : Statement) → is_lookup s ≡ true → LooksUp s
lookup_is (Ends e) q = cc
lookup_is (Does op) q = cc
lookup_is (Asks a) q = question_is a q
lookup_is (Makes n) q = makes_too n

is_up : (s : Statement) → LooksUp s → is_lookup s ≡ true
is_up s (gets place chain m key var) = refl
is_up s (finds place chain at guards var) = refl
is_up s (makes_too n) = refl

pub statements_counted : StatementsAreCounted
statements_counted s = record { new_ = (new_is s, is_one s); lookup = (lookup_is s, is_up s) }

-- what a list gives where something is asked of each element
from_option : {A B : Type 0} (h : A → Option B) (x : A) (o : Option B) (rest : List B) (y : B) → h x ≡ o → Contains (cons_option o rest) y → (h x ≡ Some y) ⊎ Contains rest y
from_option h x None rest y q i = inr i
from_option h x (Some z) rest y q i = elim (has z rest y i) [ inl e ↦ inl (q ∙ ap Some e) | inr j ↦ inr j ]

from_map : {A B : Type 0} (h : A → Option B) (xs : List A) (y : B) → Contains (filter_map h xs) y → (x : A) × Contains xs x × (h x ≡ Some y)
from_map h [] y i = absurd (has_none y i)
from_map h (x ∷ xs) y i = elim (from_option h x (h x) (filter_map h xs) y refl i) [
  | inl e ↦ (x, here x xs, e)
  | inr j ↦ let w = from_map h xs y j in (w.0, there x xs w.0 w.1, w.2)
]

in_option : {B : Type 0} (o : Option B) (rest : List B) (y : B) → o ≡ Some y → Contains (cons_option o rest) y
in_option o rest y e = rw e (here y rest)

behind_option : {B : Type 0} (o : Option B) (rest : List B) (y : B) → Contains rest y → Contains (cons_option o rest) y
behind_option None rest y i = i
behind_option (Some z) rest y i = there z rest y i

in_map : {A B : Type 0} (h : A → Option B) (xs : List A) (x : A) (y : B) → Contains xs x → h x ≡ Some y → Contains (filter_map h xs) y
in_map h [] x y i e = absurd (has_none x i)
in_map h (z ∷ xs) x y i e = elim (has z xs x i) [
  | inl q ↦ in_option (h z) (filter_map h xs) y (ap h q ∙ e)
  | inr j ↦ behind_option (h z) (filter_map h xs) y (in_map h xs x y j e)
]

-- the numbers below one
in_range : (a n k : ℕ) → Contains (range_with_len a n) k → (a ≤ k) × (k < a + n)
in_range a zero k i = absurd (has_none k i)
in_range a (suc n) k i = elim (has a (range_with_len (a + 1) n) k i) [
  | inl e ↦ (omega (arith, e), omega (arith, e))
  | inr j ↦ let w = in_range (a + 1) n k j in let le = w.0 in let lt = w.1 in (omega arith, omega arith)
]

range_has : (a n k : ℕ) → a ≤ k → k < a + n → Contains (range_with_len a n) k
range_has a zero k le lt = absurd (omega (arith, le, lt))
range_has a (suc n) k le lt = elim (which a k le) [
  | inl e ↦ subst (λ (x : ℕ). Contains (range_with_len a (suc n)) x) e (here a (range_with_len (a + 1) n))
  | inr more ↦ there a (range_with_len (a + 1) n) k (range_has (a + 1) n k (omega (arith, more)) (omega (arith, lt)))
]
  where
    which : (a k : ℕ) → a ≤ k → (a ≡ k) ⊎ (suc a ≤ k)
    which zero zero le = inl refl
    which zero (suc k) le = inr (omega arith)
    which (suc a) zero le = absurd (omega (arith, le))
    which (suc a) (suc k) le = elim (which a k (omega (arith, le))) [ inl e ↦ inl (ap suc e) | inr m ↦ inr (omega (arith, m)) ]

chain_of : (o : ObjectId) (k : ℕ) → chain_number o ≡ Some k → o ≡ object.Chain k
chain_of (object.Chain c) k e = ap object.Chain (same_Some _ _ e)
chain_of (object.Array a) k e = cc

array_of : (o : ObjectId) (k : ℕ) → array_number o ≡ Some k → o ≡ object.Array k
array_of (object.Chain c) k e = cc
array_of (object.Array a) k e = ap object.Array (same_Some _ _ e)

listed : (h : ObjectId → Option ℕ) (it : ObjectId) (k n : ℕ) (objects : List ObjectId) → h it ≡ Some k → ((o : ObjectId) → h o ≡ Some k → o ≡ it) → filter_map h objects ≡ range_with_len 0 n → Contains objects it ↔ (k < n)
listed h it k n objects e only all = (
  λ i. let w = in_range 0 n k (subst (λ ks. Contains ks k) all (in_map h objects it k i e)) in let lt = w.1 in omega arith,
  λ lt. let w = from_map h objects k (subst (λ ks. Contains ks k) (sym all) (range_has 0 n k (omega arith) (omega (arith, lt)))) in subst (λ (o : ObjectId). Contains objects o) (only w.0 w.2) w.1,
)

pub objects_listed : ObjectsAreListed
objects_listed f k l = record {
  chain = listed chain_number (object.Chain k) k (length f.chains) f.objects refl (λ o e. chain_of o k e) l.chains;
  array = listed array_number (object.Array k) k (length f.arrays) f.objects refl (λ o e. array_of o k e) l.arrays;
}
