use Rattle.traffic_summary.proofs.Counts.{are_counted}
use Rattle.traffic_summary.proofs.laws.ports_are_counted.Goals as goal

pub returns : goal.returns
returns c = are_counted
