use Rattle.describe_call.proofs.OneText.{descriptions_are_one}
use Rattle.describe_call.proofs.laws.descriptions_are_one.Goals as goal

pub returns : goal.returns
returns c = descriptions_are_one
