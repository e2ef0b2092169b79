-- A test of the numbers from i up to n, one number further.
use Rattle.std.proofs.Common.{◌≡◌, ◌∙◌, ℕ, ◌+◌, ◌-◌, ◌<◌, Bool, false, ◌||◌, suc, sym, ap, arith}
use Rattle.std.specs.List.{list_any, range_with_len}

pub any_more : (p : ℕ → Bool) (i n : ℕ) → i < n → p i ≡ false →
    list_any p (range_with_len (i + 1) (n - (i + 1))) ≡ list_any p (range_with_len i (n - i))
any_more p i n lt e =
    let k : n - i ≡ suc (n - (i + 1)) = omega arith in
    sym (ap (λ m. list_any p (range_with_len i m)) k ∙ ap (λ b. b || list_any p (range_with_len (i + 1) (n - (i + 1)))) e)
