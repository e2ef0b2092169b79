use Rattle.nf_laws.proofs.paths.tests_go_by_the_packet.Goals as goal
use Rattle.nf_laws.proofs.Going.{tests_go}

pub returns : goal.returns
returns c = tests_go
