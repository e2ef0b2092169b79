-- Values by file number.
use Rattle.std.proofs.Common.{◌≡◌, ◌≢◌, ◌∙◌, ℕ, zero, suc, ◌+◌, List, [], ◌∷◌, ◌++◌, length, slice_get, Option, Some, None, option_map, refl, ap, arith}
use Rattle.nf_files.specs.Memory.{numbered, number_of}

-- of an opened file
pub at_number : {A : Type 0} (o e : A) (f : ℕ → A) (g k : ℕ) → g ≡ k + 2 → numbered o e f g ≡ f k
at_number o e f zero k is = absurd (omega arith)
at_number o e f (suc zero) k is = absurd (omega arith)
at_number o e f (suc (suc g)) k is = let same : g ≡ k = omega arith in ap f same

pub same_numbers : {A : Type 0} (o e : A) (f h : ℕ → A) → ((j : ℕ) → h j ≡ f j) → (g : ℕ) → numbered o e h g ≡ numbered o e f g
same_numbers o e f h same zero = refl
same_numbers o e f h same (suc zero) = refl
same_numbers o e f h same (suc (suc j)) = same j

pub other_numbers : {A : Type 0} (o e : A) (f h : ℕ → A) (file k : ℕ) → file ≡ k + 2 → ((j : ℕ) → j ≢ k → h j ≡ f j) → (g : ℕ) → g ≢ file → numbered o e h g ≡ numbered o e f g
other_numbers o e f h file k is same zero other = refl
other_numbers o e f h file k is same (suc zero) other = refl
other_numbers o e f h file k is same (suc (suc j)) other = same j (λ e. other (omega (arith, e, is)))

pub number_is : (o : Option ℕ) (file k : ℕ) → file ≡ k + 2 → number_of o ≡ Some file → o ≡ Some k
number_is None file k is at = cc
number_is (Some j) file k is at = let same : suc (suc j) ≡ file = cc in let e : j ≡ k = omega (arith, same, is) in ap Some e

-- what is told of opened files stays told
pub still_opened : {A : Type 0} (f h : ℕ → Option A) (x : A) → ((j : ℕ) → f j ≡ Some x → h j ≡ Some x) → (g : ℕ) → numbered None None f g ≡ Some x → numbered None None h g ≡ Some x
still_opened f h x stays zero told = told
still_opened f h x stays (suc zero) told = told
still_opened f h x stays (suc (suc j)) told = stays j told

grows : {A B : Type 0} (f : A → B) (xs : List A) (y : A) (k : B) (j : ℕ) → option_map f (slice_get xs j) ≡ Some k → option_map f (slice_get (xs ++ y ∷ []) j) ≡ Some k
grows f [] y k j told = cc
grows f (x ∷ xs) y k zero told = told
grows f (x ∷ xs) y k (suc j) told = grows f xs y k j told

last : {A B : Type 0} (f : A → B) (xs : List A) (y : A) → option_map f (slice_get (xs ++ y ∷ []) (length xs)) ≡ Some (f y)
last f [] y = refl
last f (x ∷ xs) y = last f xs y

-- one more file was opened: what is told of it
pub told_of_last : {A B : Type 0} (f : A → B) (xs : List A) (y : A) (file : ℕ) → file ≡ length xs + 2 → numbered None None (λ k. option_map f (slice_get (xs ++ y ∷ []) k)) file ≡ Some (f y)
told_of_last f xs y file is =
    at_number None None (λ k. option_map f (slice_get (xs ++ y ∷ []) k)) file (length xs) is ∙ last f xs y

-- and of the others
pub told_before : {A B : Type 0} (f : A → B) (xs : List A) (y : A) (g : ℕ) (k : B) → numbered None None (λ j. option_map f (slice_get xs j)) g ≡ Some k → numbered None None (λ j. option_map f (slice_get (xs ++ y ∷ []) j)) g ≡ Some k
told_before f xs y g k = still_opened (λ j. option_map f (slice_get xs j)) (λ j. option_map f (slice_get (xs ++ y ∷ []) j)) k (grows f xs y k) g
