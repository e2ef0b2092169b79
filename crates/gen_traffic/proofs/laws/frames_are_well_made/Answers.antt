use Rattle.gen_traffic.proofs.Headers.{well_made}
use Rattle.gen_traffic.proofs.laws.frames_are_well_made.Goals as goal

pub returns : goal.returns
returns c = well_made
