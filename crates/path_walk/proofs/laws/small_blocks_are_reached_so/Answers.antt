use Rattle.std.proofs.Common.{refl}
use Rattle.path_walk.proofs.laws.small_blocks_are_reached_so.Goals as goal

pub returns : goal.returns
returns c = record { firewall_whole = refl; no_two_numbers = refl; dropped_ends = refl; nothing_behind = refl }
