use Rattle.key_rows.proofs.Once.{given_keys_are_one}
use Rattle.key_rows.proofs.laws.given_keys_are_one.Goals as goal

pub returns : goal.returns
returns c = given_keys_are_one
