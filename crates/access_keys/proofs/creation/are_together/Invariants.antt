-- each that was looked at sets both alike
use Rattle.std.proofs.Common.{◌≡◌, true, map, take}
use Rattle.std.specs.List.{list_all}
use Rattle.access_keys.specs.Together.{new_seen, alike}
use Rattle.access_keys.proofs.creation.are_together.Given as goal

abbrev pub invariant-loop-one : goal.invariant-loop-one
invariant-loop-one l = list_all (alike l.chain l.label l.other) (map new_seen (take l.one-index l.all)) ≡ true
