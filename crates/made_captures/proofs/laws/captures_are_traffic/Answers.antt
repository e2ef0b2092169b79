use Rattle.made_captures.proofs.Wholes.{are_traffic}
use Rattle.made_captures.proofs.laws.captures_are_traffic.Goals as goal

pub returns : goal.returns
returns c = are_traffic c.each_is_handled.ensures
