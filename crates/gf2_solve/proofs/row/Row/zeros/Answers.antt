use Rattle.std.proofs.Common.{◌≡◌, ◌/◌, ◌+◌, ◌∙◌, ap, replicate}
use Rattle.gf2_solve.specs.Words.{bits_in}
use Rattle.gf2_solve.proofs.WordLemmas.{bits_in-zeros}
use Rattle.gf2_solve.proofs.row.Row.zeros.Goals as goal

pub returns : goal.returns
returns c =
    let zeros : c.in_ok-words.words.items ≡ replicate (c.args.count / 64 + 1) 0 = c.in_ok-words.ensures.items_if_clones_equal (λ y h. h) in
    ap (λ words. bits_in words c.args.count) zeros ∙ bits_in-zeros (c.args.count / 64 + 1) c.args.count
