-- Where a look stands in an order.
use Rattle.std.proofs.Common.{◌≡◌, ℕ, zero, suc, ◌+◌, ◌≤◌, List, [], ◌∷◌, length, fold, take, insert, refl, sym, ap, ◌∙◌, arith, le_refl, take_all, length-append}
use Rattle.lock_core.specs.declared.call.Way.{Way}
use Rattle.lock_core.specs.declared.call.Way.TheVariants.{Look, Alone}
use Rattle.lock_core.specs.declared.call.Entry.{Entry}
use Rattle.lock_core.specs.declared.call.Ordered.{Ordered}
use Rattle.lock_core.specs.Calls.{by_way, entry_behind, with_packet, history, length_behind, at_next, put_behind}
use Rattle.lock_core.specs.Steps.{place_behind}
use Rattle.lock_core.proofs.Orders.{longer, length_is, left_by_look, grown_by_alone, history_prefix}
use Rattle.lock_core.proofs.Going.{front_is}

abbrev place_case : Way → ℕ → List Ordered → ℕ
place_case w n xs = by_way w (suc (place_behind n xs)) (at_next n 0 (λ left. suc (place_behind left xs)))

within_case : (w : Way) (n : ℕ) (xs : List Ordered) → ((m : ℕ) → place_behind m xs ≤ length xs) → place_case w n xs ≤ suc (length xs)
within_case Look n xs ih = let h = ih n in omega (arith, h)
within_case Alone zero xs ih = omega arith
within_case Alone (suc n) xs ih = let h = ih n in omega (arith, h)

pub place_within : (xs : List Ordered) (n : ℕ) → place_behind n xs ≤ length xs
place_within [] n = le_refl 0
place_within (x ∷ xs) n = within_case x.way n xs (λ m. place_within xs m)

insert_case : (w : Way) (n : ℕ) (look x : Ordered) (xs : List Ordered) → ((m : ℕ) → insert xs (place_behind m xs) look ≡ put_behind m look xs)
    → insert (x ∷ xs) (place_case w n xs) look ≡ by_way w (x ∷ put_behind n look xs) (at_next n (look ∷ x ∷ xs) (λ left. x ∷ put_behind left look xs))
insert_case Look n look x xs ih = ap (λ ys. x ∷ ys) (ih n)
insert_case Alone zero look x xs ih = refl
insert_case Alone (suc n) look x xs ih = ap (λ ys. x ∷ ys) (ih n)

-- to insert a look there is to put it behind so many entries
pub insert_is : (xs : List Ordered) (n : ℕ) (look : Ordered) → insert xs (place_behind n xs) look ≡ put_behind n look xs
insert_is [] n look = refl
insert_is (x ∷ xs) n look = insert_case x.way n look x xs (λ m. insert_is xs m look)

-- what is to be shown of the packets behind a first one
abbrev FrontIs : List Ordered → Type 0
FrontIs xs = (n : ℕ) (before : List Entry) → fold with_packet before (take (place_behind n xs) xs) ≡ take (length before + n) (fold with_packet before xs)

front_case : (w : Way) (n : ℕ) (x : Ordered) (xs : List Ordered) (before : List Entry) → x.way ≡ w → FrontIs xs → fold with_packet before (take (place_case w n xs) (x ∷ xs)) ≡ take (length before + n) (fold with_packet before (x ∷ xs))
front_case Look n x xs before e ih =
    let long : length (with_packet before x) ≡ length before = ap length (left_by_look before x e) in
    ih n (with_packet before x) ∙ ap (λ (k : ℕ). take (k + n) (fold with_packet before (x ∷ xs))) long
front_case Alone zero x xs before e ih =
    sym (front_is (length before + 0) before (fold with_packet before (x ∷ xs)) (history_prefix (x ∷ xs) before) (omega arith))
front_case Alone (suc n) x xs before e ih =
    let long : length (with_packet before x) ≡ length before + 1 = ap length (grown_by_alone before x e) ∙ length-append before (entry_behind before x ∷ []) in
    let same : length (with_packet before x) + n ≡ length before + suc n = omega (arith, long) in
    ih n (with_packet before x) ∙ ap (λ (k : ℕ). take k (fold with_packet before (x ∷ xs))) same

front_of : (xs : List Ordered) → FrontIs xs
front_of [] n before = sym (take_all (length before + n) before (omega arith))
front_of (x ∷ xs) n before = front_case x.way n x xs before refl (front_of xs)

-- what stands before that place has so many entries
pub history_front : (xs : List Ordered) (n : ℕ) → history (take (place_behind n xs) xs) ≡ take n (history xs)
history_front xs n = front_of xs n [] ∙ ap (λ (k : ℕ). take k (history xs)) (omega arith)

one_longer : (w : Way) (n : ℕ) → length_behind n w ≤ n + 1
one_longer Look n = omega arith
one_longer Alone n = le_refl (n + 1)

longer_within : (xs : List Ordered) (n : ℕ) → longer n xs ≤ n + length xs
longer_within [] n = omega arith
longer_within (x ∷ xs) n = let one = one_longer x.way n in let rest = longer_within xs (length_behind n x.way) in omega (arith, one, rest)

-- a history is no longer than its order
pub history_within : (xs : List Ordered) → length (history xs) ≤ length xs
history_within xs = let a = length_is xs [] in let b = longer_within xs 0 in omega (arith, a, b)
