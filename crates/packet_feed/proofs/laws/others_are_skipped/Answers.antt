use Rattle.std.proofs.Common.{refl}
use Rattle.packet_feed.specs.Arrivals.{arrival_of}
use Rattle.packet_feed.proofs.laws.others_are_skipped.Goals as goal

pub returns : goal.returns
unfolding arrival_of
returns c = λ six port seq time original frame. refl
