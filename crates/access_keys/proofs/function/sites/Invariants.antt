-- those of the ports so far
use Rattle.std.proofs.Common.{◌≡◌}
use Rattle.std.specs.List.{flat_map, range_with_len}
use Rattle.nf_base.specs.Functions.{function_of}
use Rattle.nf_base.specs.Doors.{doors_at}
use Rattle.nf_sites.specs.OnPaths.{door_sites}
use Rattle.access_keys.specs.Told.{sites_told}
use Rattle.access_keys.proofs.function.sites.Given as goal

abbrev pub invariant-loop-port : goal.invariant-loop-port
invariant-loop-port l =
    l.sites.items
    ≡ sites_told (function_of l.func) (flat_map (λ port. flat_map (door_sites (function_of l.func)) (doors_at port)) (range_with_len 0 l.port))
