-- The variables in scope, gone through one by one.
use Rattle.std.proofs.Common.{◌≡◌, ◌∙◌, ap, sym, arith, ℕ, ◌+◌, ◌<◌, List, ◌++◌, length, take, drop, map, length-append}
use Rattle.std.specs.Prelude.{slice_index_or, slice_set}
use Rattle.std.proofs.lemmas.List.{get_or_default, length-map, take-append-drop}
use Rattle.std.proofs.lemmas.List.Edits.{map_over_more}

pub changed_more : {X : Type 0} (f : X → X) (xs ys : List X) (k : ℕ) (d : X) → k < length xs → ys ≡ map f (take k xs) ++ drop k xs → slice_set ys k (f (slice_index_or ys k d)) ≡ map f (take (k + 1) xs) ++ drop (k + 1) xs
changed_more f xs ys k d lt inv =
    let e1 = ap length inv ∙ length-append (map f (take k xs)) (drop k xs) in
    let e2 = length-map (take k xs) f in
    let e3 = sym (length-append (take k xs) (drop k xs)) ∙ ap length (take-append-drop k xs) in
    let lt' : k < length ys = omega (arith, e1, e2, e3, lt) in
    map_over_more f xs ys k (slice_index_or ys k d) lt inv (get_or_default ys k d (slice_index_or ys k d) lt')
