-- Code that only grows.
use Rattle.std.proofs.Common.{arith, List, ◌∙◌}
use Rattle.nf_code.specs.declared.code.Op.{Op}
use Rattle.nf_code.specs.Code.{Keeps}

-- what is kept twice is kept
pub kept_on : (old now new : List Op) → Keeps old now → Keeps now new → Keeps old new
kept_on old now new a b = record {
  longer = omega (arith, a.longer, b.longer);
  same = λ at less. b.same at (omega (arith, a.longer)) ∙ a.same at less;
}
