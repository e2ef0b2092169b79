use Rattle.packet_feed.proofs.FirstBytes.{blocks_are_held}
use Rattle.packet_feed.proofs.laws.blocks_are_held.Goals as goal

pub returns : goal.returns
returns c = blocks_are_held
