use Rattle.certificate_laws.proofs.Lines.{lines_refute_all}
use Rattle.certificate_laws.proofs.laws.lines_refute_all.Goals as goal

pub returns : goal.returns
returns c = lines_refute_all
