-- those so far are copied
use Rattle.std.proofs.Common.{◌≡◌, take}
use Rattle.path_walk.specs.Ahead.{all_known}
use Rattle.path_walk.proofs.ways.copies.Given as goal

abbrev pub invariant-loop-known : goal.invariant-loop-known
invariant-loop-known l = all_known l.all.items ≡ all_known (take l.known-index l.live)
