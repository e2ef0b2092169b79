use Rattle.nf_syntax.proofs.Marks.{one_mark}
use Rattle.nf_syntax.proofs.text.one_mark.Goals as goal

pub returns : goal.returns
returns c = one_mark
