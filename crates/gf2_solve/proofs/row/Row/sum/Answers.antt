use Rattle.std.proofs.Common.{◌≡◌, ◌∙◌, sym, ap, length, arith}
use Rattle.gf2_solve.proofs.WordLemmas.{length-bits_in}
use Rattle.gf2_solve.proofs.SharedLemmas.{sum_front}
use Rattle.gf2_solve.proofs.row.Row.sum.Goals as goal

pub sum_words-requires-clause-row : goal.sum_words-requires-clause-row
sum_words-requires-clause-row c =
    let long : length c.args.self.now ≡ c.self.inside.len = sym (ap length c.self.view_is) ∙ length-bits_in c.self.inside.words.items c.self.inside.len in
    grind (arith, long)

pub sum_words-requires-clause-x : goal.sum_words-requires-clause-x
sum_words-requires-clause-x c =
    let long : length c.args.self.now ≡ c.self.inside.len = sym (ap length c.self.view_is) ∙ length-bits_in c.self.inside.words.items c.self.inside.len in
    grind (arith, long)

pub returns : goal.returns
returns c =
    let long : length c.args.self.now ≡ c.self.inside.len = sym (ap length c.self.view_is) ∙ length-bits_in c.self.inside.words.items c.self.inside.len in
    c.sum_words.ensures ∙ sum_front _ _ _ _ _ long c.requires c.blocks-2.ensures.bits c.blocks-3.ensures.bits
