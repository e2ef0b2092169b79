use Rattle.std.proofs.Common.{ℕ, ◌<◌}
use Rattle.key_rows.specs.Rows.{IsEvenAt}
use Rattle.key_rows.specs.Systems.{Adds}
use Rattle.key_rows.proofs.equations.add_class.Given as goal

abbrev pub invariant-loop-u : goal.invariant-loop-u
invariant-loop-u l = Adds l.ports (λ keys. (u : ℕ) → u < l.u → IsEvenAt keys l.windows l.k u) l.fn.system l.system
