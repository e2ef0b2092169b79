-- those of the ports that were gone along
use Rattle.std.proofs.Common.{◌≡◌, map, take}
use Rattle.std.specs.List.{flat_map}
use Rattle.nf_base.specs.Handlers.{blocks_of}
use Rattle.access_keys.specs.Together.{new_seen, set_at}
use Rattle.access_keys.proofs.creation.all_new.Given as goal

abbrev pub invariant-loop-port : goal.invariant-loop-port
invariant-loop-port l =
    map new_seen l.all.items ≡ flat_map set_at (map blocks_of (take l.port-index l.func.handlers))
