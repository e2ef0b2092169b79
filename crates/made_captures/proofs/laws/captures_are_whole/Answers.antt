use Rattle.made_captures.proofs.Wholes.{are_whole}
use Rattle.made_captures.proofs.laws.captures_are_whole.Goals as goal

pub returns : goal.returns
returns c = are_whole
