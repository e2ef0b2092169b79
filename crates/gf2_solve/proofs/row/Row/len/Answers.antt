use Rattle.std.proofs.Common.{◌∙◌, sym, ap, length}
use Rattle.gf2_solve.proofs.WordLemmas.{length-bits_in}
use Rattle.gf2_solve.proofs.row.Row.len.Goals as goal

pub returns : goal.returns
returns c = sym (length-bits_in c.self.inside.words.items c.self.inside.len) ∙ ap length c.self.view_is
