use Rattle.pcapng_file.proofs.Streaming.{blocks_move_on}
use Rattle.pcapng_file.proofs.laws.blocks_move_on.Goals as goal

pub returns : goal.returns
returns c = blocks_move_on
