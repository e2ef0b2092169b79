-- The numbers of the files of captures.
use Rattle.std.proofs.Common.{◌≡◌, ℕ, zero, suc, ◌+◌, ◌<◌, List, [], ◌∷◌, length, refl, ap, ◌∙◌, subst, arith}
use Rattle.std.specs.Prelude.{Some, slice_get}
use Rattle.std.proofs.lemmas.Option.{slice_get_within}
use Rattle.packet_feed.specs.Told.{EachFile, IsApart}
use Rattle.made_captures.specs.Captures.{first_number, numbers_from, numbers_of, IsMade}
use Rattle.made_captures.proofs.Wholes.{left_here}

numbers_long : (number n : ℕ) → length (numbers_from number n) ≡ n
numbers_long number zero = refl
numbers_long number (suc n) = ap suc (numbers_long (number + 1) n)

same_number : (x y : ℕ) → Some x ≡ Some y → x ≡ y
same_number x y e = cc

-- what stands there
pub number_at : (number n i x : ℕ) → slice_get (numbers_from number n) i ≡ Some x → x ≡ number + i
number_at number zero i x e = absurd cc
number_at number (suc n) zero x e = omega (arith, same_number number x e)
number_at number (suc n) (suc i) x e = omega (arith, number_at (number + 1) n i x e)

pub are_long : (numbers : List ℕ) (n : ℕ) → numbers ≡ numbers_of n → length numbers ≡ n
are_long numbers n e = ap (λ (xs : List ℕ). length xs) e ∙ numbers_long (first_number n) n

some_there : (captures : List (List ℕ)) (i : ℕ) → i < length captures → (left : List ℕ) × (slice_get captures i ≡ Some left)
some_there [] i lt = absurd (omega (arith, lt))
some_there (x ∷ xs) zero lt = (x, refl)
some_there (x ∷ xs) (suc i) lt = some_there xs i (omega (arith, lt))

pub are_made : (captures : List (List ℕ)) (numbers : List ℕ) → numbers ≡ numbers_of (length captures) → EachFile (IsMade captures) numbers
are_made captures numbers e port file at =
    let n = length captures in
    let lt : port < n = omega (arith, slice_get_within numbers port file at, are_long numbers n e) in
    let is = number_at (first_number n) n port file (subst (λ (xs : List ℕ). slice_get xs port ≡ Some file) e at) in
    let there = some_there captures port lt in
    (there.0, left_here captures n port file refl is ∙ there.1)

pub are_apart : (numbers : List ℕ) (n : ℕ) → numbers ≡ numbers_of n → IsApart numbers
are_apart numbers n e i j f g p q ne same =
    let a = number_at (first_number n) n i f (subst (λ (xs : List ℕ). slice_get xs i ≡ Some f) e p) in
    let b = number_at (first_number n) n j g (subst (λ (xs : List ℕ). slice_get xs j ≡ Some g) e q) in
    ne (omega (arith, a, b, same))
