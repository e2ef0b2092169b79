-- what is left decides
use Rattle.std.proofs.Common.{◌≡◌, drop}
use Rattle.std.specs.List.{flat_map}
use Rattle.path_walk.specs.Alive.{is_any}
use Rattle.path_walk.specs.Ahead.{behind_test, all_known}
use Rattle.path_walk.proofs.going.any_goes.Given as goal

abbrev pub invariant-loop-known : goal.invariant-loop-known
invariant-loop-known l = is_any (flat_map (behind_test l.test l.way) (all_known (drop l.known-index l.live))) ≡ is_any (flat_map (behind_test l.test l.way) (all_known l.live))
