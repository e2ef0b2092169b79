use Rattle.std.proofs.Common.{ℕ, ◌<◌, ◌≤◌}
use Rattle.key_rows.specs.Systems.{Adds, AgreeOn}
use Rattle.key_rows.proofs.pairs.add_place.Given as goal

abbrev pub invariant-loop-j : goal.invariant-loop-j
invariant-loop-j l = Adds l.ports (λ keys. (j : ℕ) → j < l.j → l.i ≤ j → AgreeOn keys l.places l.i j) l.fn.system l.system
