-- The paths of a port, as they are listed.
use Rattle.std.proofs.Common.{◌≡◌, ◌<◌, ◌≤◌, arith, ℕ, zero, suc, List, [], ◌∷◌, length, map, get_or, slice_get, Contains, Option, Some, None, refl, ap, sym, ◌∙◌, subst}
use Rattle.nf_base.specs.Doors.{handler_at}
use Rattle.nf_base.specs.Families.{door_of}
use Rattle.nf_base.specs.declared.packet.Door.{Door}
use Rattle.nf_base.specs.Text.{Block, Function}
use Rattle.nf_base.specs.Paths.{Branch, PathStep, outcomes_along}
use Rattle.nf_base.specs.Record.{outcomes}
use Rattle.nf_base.specs.Step.{step, recorded}
use Rattle.path_walk.specs.Feasible.{handler_paths, door_paths, feasible_paths, branches, branches_along}
use Rattle.path_walk.specs.Listed.{HasEachTaken}
use Rattle.path_walk.specs.Once.{EachOnce}
use Rattle.path_walk.proofs.Taken.{mapped, outcomes_listed}
use Rattle.path_walk.proofs.Apart.{listed_once}

map_twice : (xs : List (List PathStep)) → map branches (map outcomes_along xs) ≡ map branches_along xs
map_twice [] = refl
map_twice (x ∷ xs) = ap (λ ys. branches_along x ∷ ys) (map_twice xs)

pub all_taken : (f : Function) (door : Door) (all : List (List Branch)) → all ≡ map branches_along (door_paths f door) → HasEachTaken f door all
all_taken f door all e s packet fields choices r h at step =
    subst (λ (xs : List (List Branch)). Contains xs (branches (outcomes (recorded f s packet choices))))
    (map_twice (door_paths f (door_of packet.id.port fields)) ∙ ap (λ n. map branches_along (door_paths f n)) at ∙ sym e)
    (mapped branches (map outcomes_along (door_paths f (door_of packet.id.port fields))) (outcomes (recorded f s packet choices)) (outcomes_listed f s packet fields choices r h step))

once_at : (block : Option Block) → EachOnce (map branches_along (handler_paths block))
once_at None = tt
once_at (Some block) = listed_once block

pub all_once : (f : Function) (door : Door) (all : List (List Branch)) → all ≡ map branches_along (door_paths f door) → EachOnce all
all_once f door all e = subst (λ (xs : List (List Branch)). EachOnce xs) (sym e) (once_at (handler_at f door))
