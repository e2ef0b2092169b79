use Rattle.std.proofs.Common.{arith}
use Rattle.vig_chain.proofs.Keeping.{raised_sound}
use Rattle.vig_chain.proofs.chain.Chain.raise.Goals as goal

pub invariant_of-self : goal.invariant_of-self
invariant_of-self c = raised_sound _ _ _ c.max-self-inside.result c.self.invariant (omega arith)
