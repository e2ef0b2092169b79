-- Faults of items by the items before them, one item further.
use Rattle.std.proofs.Common.{◌≡◌, ◌∙◌, ℕ, ◌+◌, ◌<◌, List, [], ◌∷◌, ◌++◌, Some, None, length, take, drop, get_or, ap, sym, suc, map}
use Rattle.std.proofs.lemmas.List.{take_more, map-append}
use Rattle.std.specs.Option.{option_or}
use Rattle.std.proofs.Math.Seq.{drop-cons}
use Rattle.std.proofs.Common.{add-one}
use Rattle.nf_types.specs.declared.fault.Fault.{Fault}
use Rattle.nf_types.specs.Faults.{first, each_behind}
use Rattle.nf_types.proofs.First.{first_append}

-- the item at i comes first, then those behind it
unrolled : {A : Type 0} (f : List A → A → List Fault) (xs : List A) (i : ℕ) (d : A) → i < length xs →
    first (each_behind f (take i xs) (drop i xs)) ≡ option_or (first (f (take i xs) (get_or xs i d))) (first (each_behind f (take (i + 1) xs) (drop (i + 1) xs)))
unrolled f xs i d lt =
    rw (take_more xs i d lt) (rw add-one (rw (drop-cons xs i d lt) (first_append (f (take i xs) (get_or xs i d)) (each_behind f (take i xs ++ get_or xs i d ∷ []) (drop (suc i) xs)))))

pub behind_ok : {A : Type 0} (f : List A → A → List Fault) (xs : List A) (i : ℕ) (d : A) → i < length xs → first (f (take i xs) (get_or xs i d)) ≡ None →
    first (each_behind f (take (i + 1) xs) (drop (i + 1) xs)) ≡ first (each_behind f (take i xs) (drop i xs))
behind_ok f xs i d lt e = sym (unrolled f xs i d lt ∙ ap (λ o. option_or o (first (each_behind f (take (i + 1) xs) (drop (i + 1) xs)))) e)

pub behind_err : {A : Type 0} (f : List A → A → List Fault) (xs : List A) (i : ℕ) (d : A) (fault : Fault) → i < length xs → first (f (take i xs) (get_or xs i d)) ≡ Some fault →
    first (each_behind f (take i xs) (drop i xs)) ≡ Some fault
behind_err f xs i d fault lt e = unrolled f xs i d lt ∙ ap (λ o. option_or o (first (each_behind f (take (i + 1) xs) (drop (i + 1) xs)))) e

-- the same, of what items stand for
unrolled_seen : {A B : Type 0} (view : A → B) (f : List B → B → List Fault) (xs : List A) (i : ℕ) (d : A) → i < length xs →
    first (each_behind f (map view (take i xs)) (map view (drop i xs)))
    ≡ option_or (first (f (map view (take i xs)) (view (get_or xs i d)))) (first (each_behind f (map view (take (i + 1) xs)) (map view (drop (i + 1) xs))))
unrolled_seen view f xs i d lt =
    rw (take_more xs i d lt) (rw (map-append view (take i xs) (get_or xs i d ∷ [])) (rw add-one (rw (drop-cons xs i d lt)
    (first_append (f (map view (take i xs)) (view (get_or xs i d))) (each_behind f (map view (take i xs) ++ view (get_or xs i d) ∷ []) (map view (drop (suc i) xs)))))))

pub seen_ok : {A B : Type 0} (view : A → B) (f : List B → B → List Fault) (xs : List A) (i : ℕ) (d : A) → i < length xs → first (f (map view (take i xs)) (view (get_or xs i d))) ≡ None →
    first (each_behind f (map view (take (i + 1) xs)) (map view (drop (i + 1) xs))) ≡ first (each_behind f (map view (take i xs)) (map view (drop i xs)))
seen_ok view f xs i d lt e =
    sym (unrolled_seen view f xs i d lt ∙ ap (λ o. option_or o (first (each_behind f (map view (take (i + 1) xs)) (map view (drop (i + 1) xs))))) e)

pub seen_err : {A B : Type 0} (view : A → B) (f : List B → B → List Fault) (xs : List A) (i : ℕ) (d : A) (fault : Fault) → i < length xs → first (f (map view (take i xs)) (view (get_or xs i d))) ≡ Some fault →
    first (each_behind f (map view (take i xs)) (map view (drop i xs))) ≡ Some fault
seen_err view f xs i d fault lt e =
    unrolled_seen view f xs i d lt ∙ ap (λ o. option_or o (first (each_behind f (map view (take (i + 1) xs)) (map view (drop (i + 1) xs))))) e
