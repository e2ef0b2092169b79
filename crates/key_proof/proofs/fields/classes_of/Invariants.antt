use Rattle.std.proofs.Common.{◌≡◌, ◌<◌, ℕ, drop, get_or}
use Rattle.key_rows.specs.Classes.{classes_from, class_of}
use Rattle.key_proof.proofs.fields.classes_of.Given as goal

abbrev pub invariant-loop-i : goal.invariant-loop-i
invariant-loop-i l = (n : ℕ) → n < 8 → classes_from (λ m. get_or l.classes m 0) (drop l.i l.first) (drop l.i l.second) n ≡ class_of l.first l.second n
