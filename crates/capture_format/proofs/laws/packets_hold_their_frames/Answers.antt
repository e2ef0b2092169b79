use Rattle.capture_format.proofs.Around.{around}
use Rattle.capture_format.proofs.laws.packets_hold_their_frames.Goals as goal

pub returns : goal.returns
returns c = around
