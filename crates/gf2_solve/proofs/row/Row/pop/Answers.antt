use Rattle.std.proofs.Common.{◌≡◌, ◌+◌, ◌-◌, ◌∙◌, refl, sym, ap, arith}
use Rattle.gf2_solve.specs.Words.{bit_of, bits_in}
use Rattle.gf2_solve.proofs.WordLemmas.{bits_in-none, bits_in-more}
use Rattle.gf2_solve.proofs.row.Row.pop.Goals as goal

pub returns-then-self-eq0 : goal.returns-then-self-eq0
returns-then-self-eq0 c = sym c.self.view_is ∙ ap (bits_in c.self.inside.words.items) c.if-self-eq0.true ∙ bits_in-none c.self.inside.words.items

pub returns : goal.returns
returns c =
    let one_more : c.self.inside.len ≡ c.self.inside.len - 1 + 1 = omega (arith, c.if-self-eq0.false) in
    sym c.self.view_is
    ∙ ap (bits_in c.self.inside.words.items) one_more
    ∙ bits_in-more c.self.inside.words.items c.self.inside.words.items (c.self.inside.len - 1) _ (λ i h. refl) (ap (λ words. bit_of words (c.self.inside.len - 1)) (sym c.as_slice.ensures.value) ∙ sym c.has_bit.ensures)
