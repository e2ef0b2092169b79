use Rattle.std.proofs.Common.{◌≡◌, ◌∙◌, sym, ap, length, arith}
use Rattle.gf2_solve.specs.Words.{bits_in}
use Rattle.gf2_solve.proofs.WordLemmas.{length-bits_in}
use Rattle.gf2_solve.proofs.row.Row.copy.Goals as goal

pub invariant_of-result : goal.invariant_of-result
invariant_of-result c =
    let long : length c.args.self.now ≡ c.self.inside.len = sym (ap length c.self.view_is) ∙ length-bits_in c.self.inside.words.items c.self.inside.len in
    grind (arith, long)

pub returns : goal.returns
returns c =
    let long : length c.args.self.now ≡ c.self.inside.len = sym (ap length c.self.view_is) ∙ length-bits_in c.self.inside.words.items c.self.inside.len in
    let items : c.extend_from_slice.new.self.items ≡ c.blocks-blocks.result.now = grind arith in
    ap (λ words. bits_in words c.self.inside.len) items ∙ ap (bits_in c.blocks-blocks.result.now) (sym long) ∙ c.blocks-blocks.ensures.bits
