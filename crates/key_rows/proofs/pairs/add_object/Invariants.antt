use Rattle.std.proofs.Common.{ℕ, ◌<◌}
use Rattle.key_rows.specs.Systems.{Adds, AgreeFrom}
use Rattle.key_rows.proofs.pairs.add_object.Given as goal

abbrev pub invariant-loop-i : goal.invariant-loop-i
invariant-loop-i l = Adds l.ports (λ keys. (i : ℕ) → i < l.i → AgreeFrom keys l.places i) l.fn.system l.system
