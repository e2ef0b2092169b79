-- What stands at an index of a list that grew by one.
use Rattle.std.proofs.Common.{◌≡◌, ◌⊎◌, inl, inr, ℕ, zero, suc, ◌<◌, List, [], ◌∷◌, ◌++◌, length, map, get_or, Option, Some, slice_get, option_map, refl, ap, sym, ◌∙◌}
use Rattle.std.proofs.lemmas.Option.{slice_get-get_or, slice_get-map}

some_same : {A : Type 0} (x y : A) → Some x ≡ Some y → y ≡ x
some_same x y e = cc

-- it stood there before, or it is the new one
pub got_either : {A : Type 0} (xs : List A) (x : A) (i : ℕ) (y : A) → slice_get (xs ++ x ∷ []) i ≡ Some y → (slice_get xs i ≡ Some y) ⊎ ((i ≡ length xs) × (y ≡ x))
got_either [] x zero y here = inr (refl, some_same x y here)
got_either [] x (suc i) y here = cc
got_either (z ∷ zs) x zero y here = inl here
got_either (z ∷ zs) x (suc i) y here = elim (got_either zs x i y here) [
  | inl h ↦ inl h
  | inr h ↦ inr (ap suc h.0, h.1)
]

pub got_unique : {A : Type 0} (o : Option A) (x y : A) → o ≡ Some x → o ≡ Some y → y ≡ x
got_unique o x y h k = some_same x y (sym h ∙ k)

-- the item of a loop, seen by a map
pub got_item : {A B : Type 0} (f : A → B) (xs : List A) (i : ℕ) (x : A) → i < length xs → x ≡ get_or xs i x → slice_get (map f xs) i ≡ Some (f x)
got_item f xs i x lt at = slice_get-map f xs i ∙ ap (option_map f) (slice_get-get_or xs i x lt ∙ ap Some (sym at))
