use Rattle.key_proof.proofs.Showing.{nothing_wrong}
use Rattle.key_proof.proofs.laws.nothing_wrong_shows.Goals as goal

pub returns : goal.returns
returns c = nothing_wrong
