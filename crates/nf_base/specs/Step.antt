-- One packet's step: expiry, then the handler of its port and family.
use Rattle.std.specs.Prelude.{ℕ, Bool, true, ◌&&◌, List, [], ◌∷◌, length, replicate, Option, Some, None, map}
use Rattle.std.specs.Option.{option_map}
use Rattle.nf_base.specs.declared.decl.ChainDecl.{ChainDecl}
use Rattle.nf_base.specs.declared.decl.ArrayDecl.{ArrayDecl}
use Rattle.nf_base.specs.Text.{Block, Function}
use Rattle.nf_base.specs.declared.packet.Packet.{Packet}
use Rattle.nf_base.specs.declared.packet.Fields.{Fields}
use Rattle.nf_base.specs.declared.state.Chain.{Chain}
use Rattle.nf_base.specs.declared.state.State.{State}
use Rattle.nf_base.specs.declared.done.Action.{Action}
use Rattle.nf_base.specs.declared.done.Action.TheVariants.{Skip, Drop}
use Rattle.nf_base.specs.declared.done.Edits.{Edits}
use Rattle.nf_base.specs.declared.done.Done.{Done}
use Rattle.nf_base.specs.Families.{door_of}
use Rattle.nf_base.specs.Doors.{handler_at}
use Rattle.nf_base.specs.Chains.{expired, lifetime_of, all_none_due}
use Rattle.nf_base.specs.Context.{Context, Input}
use Rattle.nf_base.specs.Operations.{Stops, never}
use Rattle.nf_base.specs.Events.{Event}
use Rattle.nf_base.specs.Paths.{PathStep}
use Rattle.nf_base.specs.Course.{Completion, Normal, Ended, NoStep, StoppedAt, exec, events, route}
use Rattle.nf_base.specs.Record.{is_quiet}

-- one packet's step: the state after it, and what it answers
pub record StepResult : Type 0 where
  pub state : State
  pub done : Done

-- no field is given a value
abbrev pub no_edits : Edits
no_edits = record {
  src_mac = None;
  dst_mac = None;
  src_ip = None;
  dst_ip = None;
  src_ip6 = None;
  dst_ip6 = None;
  ttl = None;
  src_port = None;
  dst_port = None;
}

-- the answer of a handler that took each choice; there is none where one is left over
abbrev pub if_none_left : List ℕ → List ℕ → Context → Action → Option StepResult
if_none_left choices [] c a =
    Some (record { state = c.state; done = record { action = a; edits = c.edits; picks = choices } })
if_none_left choices (i ∷ left) c a = None

-- a handler that falls off its end drops its packet
abbrev pub step_result : List ℕ → Completion → Option StepResult
step_result choices (Normal c) = if_none_left choices c.left c Drop
step_result choices (Ended a c) = if_none_left choices c.left c a
step_result choices NoStep = None
step_result choices (StoppedAt chain left) = None

-- what a packet is to its handler
abbrev pub input : Function → ℕ → Fields → Input
input f time fields =
    record { decls = f.chains; ports = length f.handlers; time = time; fields = fields }

-- a state without what is past its lifetime
abbrev pub expired_state : Function → ℕ → State → State
expired_state f time s =
    record { chains = expired time (lifetime_of f.chains) s.chains; arrays = s.arrays }

-- the context that a handler begins with: in every chain what is past its lifetime is gone
abbrev pub start_context : Function → State → ℕ → List ℕ → Context
start_context f s time choices =
    record { state = expired_state f time s; vars = []; edits = no_edits; left = choices }

-- a skipped packet changes nothing, and takes no choice
abbrev pub skipped : State → List ℕ → Option StepResult
skipped s [] = Some (record { state = s; done = record { action = Skip; edits = no_edits; picks = [] } })
skipped s (i ∷ choices) = None

-- how a handler goes over the context that it begins with
abbrev pub completes : Stops → Function → State → ℕ → Fields → List ℕ → Option Block → Completion
completes stops f s time fields choices None = NoStep
completes stops f s time fields choices (Some block) =
    exec stops (input f time fields) block (start_context f s time choices)

-- what it does
abbrev pub records : Stops → Function → State → ℕ → Fields → List ℕ → Option Block → List Event
records stops f s time fields choices None = []
records stops f s time fields choices (Some block) =
    events stops (input f time fields) block (start_context f s time choices) (λ c. [])

-- the path that it takes
abbrev pub routes : Stops → Function → State → ℕ → Fields → List ℕ → Option Block → List PathStep
routes stops f s time fields choices None = []
routes stops f s time fields choices (Some block) =
    route stops (input f time fields) block (start_context f s time choices) (λ c. [])

-- the step of a packet with these fields, or of a skipped one
abbrev pub step_of : Stops → Function → State → Packet → List ℕ → Option Fields → Option StepResult
step_of stops f s packet choices None = skipped s choices
step_of stops f s packet choices (Some fields) =
    step_result choices (completes stops f s packet.time fields choices (handler_at f (door_of packet.id.port fields)))

-- what it does
abbrev pub record_of : Stops → Function → State → Packet → List ℕ → Option Fields → List Event
record_of stops f s packet choices None = []
record_of stops f s packet choices (Some fields) =
    records stops f s packet.time fields choices (handler_at f (door_of packet.id.port fields))

-- the path that it takes
abbrev pub route_of : Stops → Function → State → Packet → List ℕ → Option Fields → List PathStep
route_of stops f s packet choices None = []
route_of stops f s packet choices (Some fields) =
    routes stops f s packet.time fields choices (handler_at f (door_of packet.id.port fields))

-- The step of a packet with these choices, the indices of the entries that it makes. There is none
-- where a choice is not vacant, is missing or is left over, or where a `new` stops.
abbrev pub step_by : Stops → Function → State → Packet → List ℕ → Option StepResult
step_by stops f s packet choices = step_of stops f s packet choices packet.fields

-- what the step does, after expiry; where a choice is not legal, what it does up to there
abbrev pub recorded_by : Stops → Function → State → Packet → List ℕ → List Event
recorded_by stops f s packet choices = record_of stops f s packet choices packet.fields

-- the path that the step takes
abbrev pub taken_by : Stops → Function → State → Packet → List ℕ → List PathStep
taken_by stops f s packet choices = route_of stops f s packet choices packet.fields

-- the undivided step
abbrev pub step : Function → State → Packet → List ℕ → Option StepResult
step f s packet choices = step_by never f s packet choices

-- what it does
abbrev pub recorded : Function → State → Packet → List ℕ → List Event
recorded f s packet choices = recorded_by never f s packet choices

-- the path that it takes
abbrev pub path_taken : Function → State → Packet → List ℕ → List PathStep
path_taken f s packet choices = taken_by never f s packet choices

-- whether nothing expires, where a packet is handled
abbrev pub expires_nothing : Function → State → ℕ → Option Fields → Bool
expires_nothing f s time None = true
expires_nothing f s time (Some fields) = all_none_due time (lifetime_of f.chains) s.chains

-- Whether no single operation of a packet's step changes the state, expiry included. Only a packet
-- that has a step is quiet or not.
abbrev pub quiet : Function → State → Packet → List ℕ → Option Bool
quiet f s packet choices =
    option_map
    (λ (r : StepResult).
    expires_nothing f s packet.time packet.fields && is_quiet (recorded f s packet choices))
    (step f s packet choices)

-- a chain before the first packet: no entries, no stamp yet
abbrev pub opening_chain : ChainDecl → Chain
opening_chain decl = record { slots = replicate decl.size None; greatest = 0 }

-- an array before the first packet
abbrev pub opening_cells : ArrayDecl → List ℕ
opening_cells decl = decl.cells

-- what a function remembers before its first packet
abbrev pub opening : Function → State
opening f = record { chains = map opening_chain f.chains; arrays = map opening_cells f.arrays }
