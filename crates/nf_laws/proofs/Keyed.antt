-- The parts of a key.
use Rattle.std.proofs.Common.{◌≡◌, ◌<◌, ◌≤◌, ◌+◌, ℕ, zero, suc, List, [], ◌∷◌, take, drop, None, slice_get, refl, ap, ◌∙◌, arith}
use Rattle.nf_laws.specs.Entries.{KeysHaveTheirParts}

part_of : (xs : List ℕ) (n i : ℕ) → i < n → slice_get (take n xs) i ≡ slice_get xs i
part_of xs zero i lt = absurd (omega (arith, lt))
part_of [] (suc n) i lt = refl
part_of (x ∷ xs) (suc n) zero lt = refl
part_of (x ∷ xs) (suc n) (suc i) lt = part_of xs n i (omega (arith, lt))

past_it : (xs : List ℕ) (n i : ℕ) → n ≤ i → slice_get (take n xs) i ≡ None
past_it xs zero i le = refl
past_it [] (suc n) i le = refl
past_it (x ∷ xs) (suc n) zero le = absurd (omega (arith, le))
past_it (x ∷ xs) (suc n) (suc i) le = past_it xs n i (omega (arith, le))

from_it : (xs : List ℕ) (n i j : ℕ) → j ≡ n + i → slice_get (drop n xs) i ≡ slice_get xs j
from_it xs zero i j e = ap (slice_get xs) (let same : i ≡ j = omega (arith, e) in same)
from_it [] (suc n) i j e = refl
from_it (x ∷ xs) (suc n) i zero e = absurd (omega (arith, e))
from_it (x ∷ xs) (suc n) i (suc j) e = from_it xs n i j (omega (arith, e))

pub keys_have_parts : KeysHaveTheirParts
keys_have_parts m labels = record {
  part = λ i lt. part_of (drop m.first labels) m.parts i lt ∙ from_it labels m.first i (m.first + i) refl;
  no_more = λ i le. past_it (drop m.first labels) m.parts i le;
}
