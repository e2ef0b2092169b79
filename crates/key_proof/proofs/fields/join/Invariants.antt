use Rattle.std.proofs.Common.{◌≡◌, ◌<◌, ◌≤◌, ℕ, get_or}
use Rattle.key_rows.specs.Classes.{joined}
use Rattle.key_proof.proofs.fields.join.Given as goal

abbrev pub invariant-loop-class : goal.invariant-loop-class
invariant-loop-class l = record {
  done : (n : ℕ) → n < l.class-index → get_or l.classes n 0 ≡ joined l.a l.b (λ m. get_or l.fn.classes m 0) n;
  rest : (n : ℕ) → l.class-index ≤ n → get_or l.classes n 0 ≡ get_or l.fn.classes n 0;
}
