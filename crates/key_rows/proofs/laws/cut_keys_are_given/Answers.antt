use Rattle.key_rows.proofs.Cutting.{cut_keys_are_given}
use Rattle.key_rows.proofs.laws.cut_keys_are_given.Goals as goal

pub returns : goal.returns
returns c = cut_keys_are_given
