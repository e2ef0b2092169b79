use Rattle.std.proofs.Common.{◌≡◌, ◌∙◌, sym, ap, ap₂, take, length, arith, length-take-le}
use Rattle.gf2_solve.specs.Words.{bits_in}
use Rattle.gf2_solve.proofs.WordLemmas.{length-bits_in, bits_in-take}
use Rattle.gf2_solve.proofs.row.Row.blocks.Goals as goal

pub returns-clause-bits : goal.returns-clause-bits
returns-clause-bits c =
    let long : length c.args.self.now ≡ c.self.inside.len = sym (ap length c.self.view_is) ∙ length-bits_in c.self.inside.words.items c.self.inside.len in
    ap₂ (λ words n. bits_in (take c.div_ceil.result words) n) c.as_slice.ensures.value long ∙ bits_in-take _ _ _ (grind arith) ∙ c.self.view_is

pub returns-clause-length : goal.returns-clause-length
returns-clause-length c =
    let long : length c.args.self.now ≡ c.self.inside.len = sym (ap length c.self.view_is) ∙ length-bits_in c.self.inside.words.items c.self.inside.len in
    grind (arith, long, length-take-le)
