-- The path that a course takes, and the paths of its text.
use Rattle.std.specs.Prelude.{◌≡◌, ℕ, Bool, true, false, ◌&&◌, List, [], ◌∷◌, Some, Contains, slice_get}
use Rattle.nf_base.specs.Doors.{handler_at}
use Rattle.nf_base.specs.Families.{door_of}
use Rattle.nf_base.specs.declared.packet.Packet.{Packet}
use Rattle.nf_base.specs.declared.packet.Fields.{Fields}
use Rattle.nf_base.specs.declared.state.State.{State}
use Rattle.nf_base.specs.declared.expr.Comparison.{Comparison}
use Rattle.nf_base.specs.Values.{compares}
use Rattle.nf_base.specs.Text.{Expression, Number, Read, Index, Label, Column, Cell, Both, Test, Block, Function}
use Rattle.nf_base.specs.Context.{Context, Input, value}
use Rattle.nf_base.specs.Operations.{Stops}
use Rattle.nf_base.specs.Paths.{Asking, Branch, PathStep, paths, outcomes_along}
use Rattle.nf_base.specs.Course.{route}
use Rattle.nf_base.specs.Record.{is_legal, outcomes, test_branch}
use Rattle.nf_base.specs.Step.{recorded, path_taken}

-- the paths of a whole block
abbrev pub IsPathOf : Block → List PathStep → Type 0
IsPathOf block path = Contains (paths block ([] ∷ [])) path

-- whatever the packet, the state and the choices, a course takes a path of its text, a share's too
abbrev pub CoursesTakePaths : Type 0
CoursesTakePaths = (stops : Stops) (p : Input) (block : Block) (c : Context) →
    IsPathOf block (route stops p block c (λ _. []))

-- and so does a handled packet
abbrev pub PacketsTakePaths : Type 0
PacketsTakePaths =
    (f : Function) (s : State) (packet : Packet) (fields : Fields) (choices : List ℕ)
    (block : Block) →
    packet.fields ≡ Some fields → handler_at f (door_of packet.id.port fields) ≡ Some block →
    IsPathOf block (path_taken f s packet choices)

-- where each `new` got an answer, the outcomes of the record are those along the path
abbrev pub OutcomesAreAlongPaths : Type 0
OutcomesAreAlongPaths = (f : Function) (s : State) (packet : Packet) (choices : List ℕ) →
    is_legal (recorded f s packet choices) ≡ true →
    outcomes (recorded f s packet choices) ≡ outcomes_along (path_taken f s packet choices)

-- a value of the packet alone: numbers, fields, and what they come to together
abbrev pub of_packet : Expression → Bool
of_packet (Number n) = true
of_packet (Read field) = true
of_packet (Index var) = false
of_packet (Label var label) = false
of_packet (Column var column) = false
of_packet (Cell place array at) = false
of_packet (Both operator left right) = of_packet left && of_packet right

-- a test of the packet alone goes on the path as the packet's fields say, in whatever context
abbrev pub TestsGoByThePacket : Type 0
TestsGoByThePacket =
    (stops : Stops) (p : Input) (block : Block) (c d : Context) (place : ℕ)
    (comparison : Comparison) (left right : Expression) (branch : Branch) →
    Contains (route stops p block c (λ _. [])) (Asking (Test place comparison left right) branch) →
    of_packet left ≡ true → of_packet right ≡ true →
    branch ≡ test_branch (compares comparison (value p d left) (value p d right))
