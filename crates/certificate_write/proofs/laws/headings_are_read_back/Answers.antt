use Rattle.certificate_write.proofs.Back.{headings_are_read_back}
use Rattle.certificate_write.proofs.laws.headings_are_read_back.Goals as goal

pub returns : goal.returns
returns c = headings_are_read_back
