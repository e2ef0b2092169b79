use Rattle.std.proofs.Common.{ℕ, ◌<◌}
use Rattle.key_rows.specs.Rows.{AreEvenAt}
use Rattle.key_rows.specs.Systems.{Adds}
use Rattle.key_rows.proofs.equations.add_windows.Given as goal

abbrev pub invariant-loop-k : goal.invariant-loop-k
invariant-loop-k l = Adds l.ports (λ keys. (k : ℕ) → k < l.k → AreEvenAt keys l.windows k) l.fn.system l.system
