use Rattle.std.proofs.Common.{◌≡◌, ℕ, ◌+◌, ◌<◌, get_or}
use Rattle.key_rows.specs.Classes.{width_at}
use Rattle.key_rows.proofs.windows.is_within.Given as goal

abbrev pub invariant-loop-n : goal.invariant-loop-n
invariant-loop-n l = (m : ℕ) → m < l.n → get_or l.windows.classes m 0 ≡ l.k → l.u < width_at l.windows.first_family l.windows.second_family m + 31
