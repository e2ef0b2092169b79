-- those of the statements that were gone along
use Rattle.std.proofs.Common.{◌≡◌, ◌++◌, map, take}
use Rattle.std.specs.List.{flat_map}
use Rattle.path_walk.specs.Order.{head_seen}
use Rattle.access_keys.specs.Together.{new_seen, set_in}
use Rattle.access_keys.proofs.creation.put_news.Given as goal

abbrev pub invariant-loop-one : goal.invariant-loop-one
invariant-loop-one l =
    map new_seen l.all.items
    ≡ map new_seen l.fn.all.items ++ flat_map set_in (map head_seen (take l.one-index l.statements))
