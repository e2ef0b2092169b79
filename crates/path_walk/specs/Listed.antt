-- What a list of a port's paths says.
use Rattle.std.specs.Prelude.{◌≡◌, ◌<◌, ℕ, List, Some, length, map, Contains}
use Rattle.nf_base.specs.Families.{door_of}
use Rattle.nf_base.specs.declared.packet.Door.{Door}
use Rattle.nf_base.specs.declared.packet.Packet.{Packet}
use Rattle.nf_base.specs.declared.packet.Fields.{Fields}
use Rattle.nf_base.specs.declared.state.State.{State}
use Rattle.nf_base.specs.Text.{Block, Function}
use Rattle.nf_base.specs.Paths.{Branch}
use Rattle.nf_base.specs.Record.{outcomes}
use Rattle.nf_base.specs.Step.{StepResult, step, recorded}
use Rattle.path_walk.specs.declared.fault.WalkFault.{WalkFault}
use Rattle.path_walk.specs.declared.fault.WalkFault.TheVariants.{TooManyPaths}
use Rattle.path_walk.specs.Feasible.{feasible_paths, door_paths, branches, branches_along}

-- how the feasible paths of a block branch, in text order
abbrev pub block_branches : Block → List (List Branch)
block_branches block = map branches_along (feasible_paths block)

-- and those of a port
abbrev pub door_branches : Function → Door → List (List Branch)
door_branches f door = map branches_along (door_paths f door)

-- where paths are too many, there are more than 4,096
abbrev pub IsCause : List (List Branch) → WalkFault → Type 0
IsCause all fault = fault ≡ TooManyPaths → 4096 < length all

-- Whatever the state, a packet of the port that is handled and has a step, with whatever choices,
-- branches as one of these.
abbrev pub HasEachTaken : Function → Door → List (List Branch) → Type 0
HasEachTaken f door all =
    (s : State) (packet : Packet) (fields : Fields) (choices : List ℕ) (r : StepResult) →
    packet.fields ≡ Some fields → door_of packet.id.port fields ≡ door → step f s packet choices ≡ Some r →
    Contains all (branches (outcomes (recorded f s packet choices)))
