use Rattle.std.proofs.Common.{◌≡◌, ◌∙◌, sym, ap, subst, length, arith}
use Rattle.std.proofs.lemmas.List.{with_items_is}
use Rattle.gf2_solve.specs.Sums.{IsSumOf}
use Rattle.gf2_solve.specs.Words.{bits_in, AreAdded}
use Rattle.gf2_solve.proofs.WordLemmas.{length-bits_in}
use Rattle.gf2_solve.proofs.AddedLemmas.{row_added}
use Rattle.gf2_solve.proofs.row.Row.add.Goals as goal

pub add_words-requires : goal.add_words-requires
add_words-requires c =
    let long : length c.args.self.now ≡ c.self.inside.len = sym (ap length c.self.view_is) ∙ length-bits_in c.self.inside.words.items c.self.inside.len in
    grind (arith, long)

pub returns-clause-sums : goal.returns-clause-sums
returns-clause-sums c =
    let added : AreAdded c.self.inside.words.items c.blocks-2.result.now c.add_words.new.row = rw c.as_mut_slice.ensures.value at c.add_words.ensures in
    let fits : length c.add_words.new.row ≡ c.self.inside.words.len = added.length ∙ sym c.self.inside.words.ok.0 in
    subst (λ words. IsSumOf c.args.self.now c.args.other.now (bits_in words c.self.inside.len)) (sym (with_items_is c.self.inside.words c.add_words.new.row fits))
    (row_added c.self.inside.words.items _ _ _ _ _ c.self.view_is c.blocks-2.ensures.bits c.requires added)

pub returns-clause-length : goal.returns-clause-length
returns-clause-length c = length-bits_in _ _ ∙ sym (length-bits_in c.self.inside.words.items c.self.inside.len) ∙ ap length c.self.view_is
