use Rattle.certificate_write.proofs.Back.{lines_are_read_back}
use Rattle.certificate_write.proofs.laws.lines_are_read_back.Goals as goal

pub returns : goal.returns
returns c = lines_are_read_back
