use Rattle.std.proofs.Common.{◌≡◌, ◌∙◌, sym, ap, subst, length, arith}
use Rattle.gf2_solve.specs.Sums.{HasSameSums}
use Rattle.gf2_solve.specs.Words.{bits_in}
use Rattle.gf2_solve.proofs.WordLemmas.{length-bits_in}
use Rattle.gf2_solve.proofs.TrimmedLemmas.{trimmed_sums}
use Rattle.gf2_solve.proofs.row.Row.trim.Goals as goal

pub returns-clause-sums : goal.returns-clause-sums
returns-clause-sums c =
    let zeros = rw c.as_slice.ensures.value at c.trimmed-self-inside.ensures.zeros in
    subst (λ row. HasSameSums (bits_in c.self.inside.words.items c.trimmed-self-inside.result) row) c.self.view_is
    (trimmed_sums c.self.inside.words.items _ _ c.trimmed-self-inside.ensures.within zeros)

pub returns-clause-shorter : goal.returns-clause-shorter
returns-clause-shorter c =
    let old : length c.args.self.now ≡ c.self.inside.len = sym (ap length c.self.view_is) ∙ length-bits_in c.self.inside.words.items c.self.inside.len in
    let new = length-bits_in c.self.inside.words.items c.trimmed-self-inside.result in
    omega (arith, old, new, c.trimmed-self-inside.ensures.within)
