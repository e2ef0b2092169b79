use Rattle.gen_traffic.proofs.Streams.{counted}
use Rattle.gen_traffic.proofs.laws.traffic_is_counted.Goals as goal

pub returns : goal.returns
returns c = counted
