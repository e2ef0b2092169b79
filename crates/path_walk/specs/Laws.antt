-- Laws of tests and paths.
use Rattle.std.specs.Prelude.{◌≡◌, ℕ, true, List, Some, IsSome, Contains, map, slice_get}
use Rattle.nf_base.specs.Doors.{handler_at}
use Rattle.nf_base.specs.Families.{door_of}
use Rattle.nf_base.specs.declared.packet.Packet.{Packet}
use Rattle.nf_base.specs.declared.packet.Fields.{Fields}
use Rattle.nf_base.specs.declared.state.State.{State}
use Rattle.nf_base.specs.Text.{Block, Function}
use Rattle.nf_base.specs.Paths.{PathStep, outcomes_along}
use Rattle.nf_base.specs.Record.{outcomes}
use Rattle.nf_base.specs.Step.{StepResult, step, recorded, path_taken}
use Rattle.path_walk.specs.Tests.{TestText, same_text}
use Rattle.path_walk.specs.Feasible.{is_feasible, IsFeasible, feasible_paths, door_paths, branches_along}
use Rattle.path_walk.specs.Once.{EachOnce}

-- tests of one text are those with the same sign and the same sides
abbrev pub TextsAreTheirTokens : Type 0
TextsAreTheirTokens = (a b : TestText) → same_text a b ≡ true → a ≡ b

-- a path is feasible exactly where it is so as it stands
abbrev pub FeasibleIs : Type 0
FeasibleIs = (path : List PathStep) → is_feasible path ≡ true → IsFeasible path

abbrev pub IsFeasibleWhere : Type 0
IsFeasibleWhere = (path : List PathStep) → IsFeasible path → is_feasible path ≡ true

-- whatever the state and the choices, a handled packet takes a feasible path of its port
abbrev pub PacketsTakeFeasiblePaths : Type 0
PacketsTakeFeasiblePaths =
    (f : Function) (s : State) (packet : Packet) (fields : Fields) (choices : List ℕ) →
    packet.fields ≡ Some fields → IsSome (handler_at f (door_of packet.id.port fields)) →
    Contains (door_paths f (door_of packet.id.port fields)) (path_taken f s packet choices)

-- and the outcomes of its step are those along one
abbrev pub OutcomesAreListed : Type 0
OutcomesAreListed =
    (f : Function) (s : State) (packet : Packet) (fields : Fields) (choices : List ℕ) (r : StepResult) →
    packet.fields ≡ Some fields → step f s packet choices ≡ Some r →
    Contains (map outcomes_along (door_paths f (door_of packet.id.port fields))) (outcomes (recorded f s packet choices))

-- no two feasible paths of a block branch alike
abbrev pub PathsAreListedOnce : Type 0
PathsAreListedOnce = (block : Block) → EachOnce (map branches_along (feasible_paths block))
