-- Tagged maps, as what is said of the maps that they are beside rows.
use Rattle.std.proofs.Common.{◌≡◌, ap, refl, ℕ, Bool, ◌||◌, List, [], ◌∷◌, map}
use Rattle.std.specs.Prelude.{All}
use Rattle.std.specs.List.{AllZip, list_any}
use Rattle.std.proofs.lemmas.List.Elements.{All-nil, All-cons, All-head, All-tail}
use Rattle.vig_tables.specs.Grid.{Grid, row_at}
use Rattle.vig_tables.specs.Keyed.{Keyed, is_bound, IsBoundTo, IsUnbound}
use Rattle.vig_tables.specs.Tagged.{Tagged, keyed_in, IsTagged, IsBoundIn, IsUnboundIn, is_bound_in}

-- what is changed in each map is changed in what the map is beside rows
zip_mapped :
    (f : Tagged → Keyed) (P : Tagged → Tagged → Type 0) (Q : Keyed → Keyed → Type 0)
    (xs ys : List Tagged) → ((x y : Tagged) → P x y → Q (f x) (f y)) → AllZip P xs ys
    → AllZip Q (map f xs) (map f ys)
zip_mapped f P Q [] [] each z = tt
zip_mapped f P Q [] (y ∷ ys) each z = absurd z
zip_mapped f P Q (x ∷ xs) [] each z = absurd z
zip_mapped f P Q (x ∷ xs) (y ∷ ys) each z = (each x y z.0, zip_mapped f P Q xs ys each z.1)

-- what is true of each map after a change
zip_after :
    (P : Tagged → Tagged → Type 0) (Q : Tagged → Type 0) (xs ys : List Tagged)
    → ((x y : Tagged) → P x y → Q y) → AllZip P xs ys → All Q ys
zip_after P Q [] [] each z = All-nil Q
zip_after P Q [] (y ∷ ys) each z = absurd z
zip_after P Q (x ∷ xs) [] each z = absurd z
zip_after P Q (x ∷ xs) (y ∷ ys) each z = All-cons Q y ys (each x y z.0) (zip_after P Q xs ys each z.1)

pub all_bound :
    (labels : Grid) (i : ℕ) (xs ys : List Tagged) → AllZip (IsBoundIn labels i) xs ys
    → AllZip (IsBoundTo (row_at labels i) i) (map (keyed_in labels) xs) (map (keyed_in labels) ys)
all_bound labels i xs ys z = zip_mapped (keyed_in labels) (IsBoundIn labels i) (IsBoundTo (row_at labels i) i) xs ys (λ x y b. b.bound) z

pub bound_tagged :
    (labels : Grid) (i : ℕ) (xs ys : List Tagged) → AllZip (IsBoundIn labels i) xs ys
    → All (IsTagged labels) ys
bound_tagged labels i xs ys z = zip_after (IsBoundIn labels i) (IsTagged labels) xs ys (λ x y b. b.tagged) z

pub all_unbound :
    (labels : Grid) (i : ℕ) (xs ys : List Tagged) → AllZip (IsUnboundIn labels i) xs ys
    → AllZip (IsUnbound (row_at labels i)) (map (keyed_in labels) xs) (map (keyed_in labels) ys)
all_unbound labels i xs ys z = zip_mapped (keyed_in labels) (IsUnboundIn labels i) (IsUnbound (row_at labels i)) xs ys (λ x y b. b.unbound) z

pub unbound_tagged :
    (labels : Grid) (i : ℕ) (xs ys : List Tagged) → AllZip (IsUnboundIn labels i) xs ys
    → All (IsTagged labels) ys
unbound_tagged labels i xs ys z = zip_after (IsUnboundIn labels i) (IsTagged labels) xs ys (λ x y b. b.tagged) z

pub any_bound :
    (labels : Grid) (row : List ℕ) (xs : List Tagged)
    → list_any (is_bound_in labels row) xs ≡ list_any (is_bound row) (map (keyed_in labels) xs)
any_bound labels row [] = refl
any_bound labels row (x ∷ xs) = ap (λ (b : Bool). is_bound_in labels row x || b) (any_bound labels row xs)

-- what is true of each map, and of what it is beside rows
pub both_mapped :
    (f : Tagged → Keyed) (P : Keyed → Type 0) (Q : Tagged → Type 0) (xs : List Tagged) → All Q xs
    → All P (map f xs) → All (λ (x : Tagged). Q x × P (f x)) xs
both_mapped f P Q [] all mapped = All-nil (λ (x : Tagged). Q x × P (f x))
both_mapped f P Q (x ∷ xs) all mapped =
    All-cons (λ (y : Tagged). Q y × P (f y)) x xs (All-head Q x xs all, All-head P (f x) (map f xs) mapped) (both_mapped f P Q xs (All-tail Q x xs all) (All-tail P (f x) (map f xs) mapped))
