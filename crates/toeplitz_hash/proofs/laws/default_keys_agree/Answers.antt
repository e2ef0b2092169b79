use Rattle.toeplitz_hash.proofs.Defaults.{default_keys_agree}
use Rattle.toeplitz_hash.proofs.laws.default_keys_agree.Goals as goal

pub returns : goal.returns
returns c = default_keys_agree
