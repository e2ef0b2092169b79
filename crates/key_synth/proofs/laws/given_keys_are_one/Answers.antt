use Rattle.key_synth.proofs.Tied.{given_keys_one}
use Rattle.key_synth.proofs.laws.given_keys_are_one.Goals as goal

pub returns : goal.returns
returns c = given_keys_one
