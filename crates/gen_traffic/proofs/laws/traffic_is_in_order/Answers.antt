use Rattle.gen_traffic.proofs.Streams.{in_order}
use Rattle.gen_traffic.proofs.laws.traffic_is_in_order.Goals as goal

pub returns : goal.returns
returns c = in_order
