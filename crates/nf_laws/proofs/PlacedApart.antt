-- The places of a text are different, and rise.
use Rattle.std.proofs.Common.{◌≡◌, ◌≢◌, ◌<◌, suc, List, [], ◌∷◌, ◌++◌, AllPairs, Contains, refl, ap, ◌∙◌, subst, arith, inl, inr}
use Rattle.std.specs.List.{flat_map}
use Rattle.std.specs.List.Sorted.{IsStrictlyIncreasing}
use Rattle.std.proofs.lemmas.List.Concat.{flat_map-cons}
use Rattle.std.proofs.lemmas.Grind.{flat_map-append}
use Rattle.std.proofs.lemmas.List.Kept.{AllPairs-from_increasing}
use Rattle.std.proofs.lemmas.List.Elements.{All-contains, Contains-append_right}
use Rattle.nf_base.specs.Doors.{blocks}
use Rattle.nf_base.specs.Text.{Block}
use Rattle.nf_base.specs.Statements.{Statement, statements}
use Rattle.nf_base.specs.TextPlaces.{own_place, places_in, all_statements}
use Rattle.nf_laws.specs.Places.{PlacesAreOfOneStatement, PlacesRise}
use Rattle.nf_laws.proofs.Listed.{has, in_flat}

-- a fact of each element and each later one, at one of a list and one behind it
rest_pairs : {A : Type 0} (R : A → A → Type 0) (x : A) (xs : List A) → AllPairs R (x ∷ xs) → AllPairs R xs
rest_pairs R x xs all i j d lt within = all (suc i) (suc j) d (omega (arith, lt)) (omega (arith, within))

later_pairs : {A : Type 0} (R : A → A → Type 0) (xs ys : List A) → AllPairs R (xs ++ ys) → AllPairs R ys
later_pairs R [] ys all = all
later_pairs R (x ∷ xs) ys all = later_pairs R xs ys (rest_pairs R x (xs ++ ys) all)

head_pair : {A : Type 0} (R : A → A → Type 0) (x y : A) (xs : List A) → AllPairs R (x ∷ xs) → Contains xs y → R x y
head_pair R x y xs all h = subst (R x) h.2 (all 0 (suc h.0) y (omega arith) (let lt = h.1 in omega arith))

pair : {A : Type 0} (R : A → A → Type 0) (xs ys : List A) (x y : A) → AllPairs R (xs ++ ys) → Contains xs x → Contains ys y → R x y
pair R [] ys x y all h i = let lt = h.1 in absurd (omega (arith, lt))
pair R (z ∷ xs) ys x y all h i = elim (has z xs x h) [
  | inl e ↦ subst (λ w. R w y) e (head_pair R z y (xs ++ ys) all (Contains-append_right xs ys y i))
  | inr j ↦ pair R xs ys x y (rest_pairs R z (xs ++ ys) all) j i
]

-- what statements give, parted at one of them
parted : {B : Type 0} (g : Statement → List B) (all earlier later : List Statement) (s : Statement) → all ≡ earlier ++ s ∷ later →
    flat_map g all ≡ flat_map g earlier ++ (g s ++ flat_map g later)
parted g all earlier later s e = ap (flat_map g) e ∙ flat_map-append g earlier (s ∷ later) ∙ ap (λ xs. flat_map g earlier ++ xs) (flat_map-cons g s later)

two : {B : Type 0} (R : B → B → Type 0) (g : Statement → List B) (all earlier later : List Statement) (s t : Statement) (a b : B) → AllPairs R (flat_map g all) → all ≡ earlier ++ s ∷ later →
    Contains later t → Contains (g s) a → Contains (g t) b → R a b
two R g all earlier later s t a b pairs e h i j =
    let whole = subst (AllPairs R) (parted g all earlier later s e) pairs in
    pair R (g s) (flat_map g later) a b (later_pairs R (flat_map g earlier) (g s ++ flat_map g later) whole) i (in_flat g later t b h j)

pub of_one_statement : PlacesAreOfOneStatement
of_one_statement f earlier later s t place h e i a b = two (λ x y. x ≢ y) places_in (all_statements f) earlier later s t place place h.different e i a b refl

pub places_rise : PlacesRise
places_rise f block earlier later s t a b h in_text e i x y =
    let rising = All-contains (λ (b : Block). IsStrictlyIncreasing (flat_map own_place (statements b))) (blocks f) block h.rising in_text in
    two (λ m n. m < n) own_place (statements block) earlier later s t a b (AllPairs-from_increasing (flat_map own_place (statements block)) rising) e i x y
