use Rattle.packet_feed.proofs.FirstBytes.{records_are_held}
use Rattle.packet_feed.proofs.laws.records_are_held.Goals as goal

pub returns : goal.returns
returns c = records_are_held
