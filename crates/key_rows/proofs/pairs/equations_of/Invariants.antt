use Rattle.std.proofs.Common.{ℕ, ◌<◌}
use Rattle.std.specs.List.{HoldsAt}
use Rattle.key_rows.specs.Places.{AreAdmissible}
use Rattle.key_rows.specs.Systems.{Adds}
use Rattle.key_rows.proofs.pairs.equations_of.Given as goal

abbrev pub invariant-loop-object : goal.invariant-loop-object
invariant-loop-object l = Adds l.ports (λ keys. (i : ℕ) → i < l.object-index → HoldsAt (λ object. AreAdmissible keys object.places) l.objects i) l.initial.system l.system
