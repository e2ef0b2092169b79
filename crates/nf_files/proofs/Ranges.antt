-- Ranges of a list.
use Rattle.std.proofs.Common.{◌≡◌, ◌≤◌, ℕ, ◌+◌, ◌-◌, List, take, drop, slice_range, sym, ap, ◌∙◌, arith, drop-drop}
use Rattle.std.proofs.lemmas.List.{drop-take}

-- a range whose start moved on
pub later_start : (xs : List ℕ) (at end n : ℕ) → n ≤ end - at → slice_range xs (at + n) end ≡ drop n (slice_range xs at end)
later_start xs at end n le =
    let whole : n + (end - (at + n)) ≡ end - at = omega arith in
    ap (take (end - (at + n))) (sym (drop-drop n at xs))
    ∙ sym (drop-take n (end - (at + n)) (drop at xs))
    ∙ ap (λ k. drop n (take k (drop at xs))) whole
