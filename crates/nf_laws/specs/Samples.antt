-- Words for worked rows: declarations without names, texts, packets, and what is asked of a run.
use Rattle.std.specs.Prelude.{ℕ, List, [], Option, Some, None, map}
use Rattle.nf_base.specs.declared.packet.Addresses.TheVariants as addresses
use Rattle.nf_base.specs.declared.width.Width.{Width}
use Rattle.nf_base.specs.declared.decl.ColumnDecl.{ColumnDecl}
use Rattle.nf_base.specs.declared.decl.MapDecl.{MapDecl}
use Rattle.nf_base.specs.declared.packet.Field.{Field}
use Rattle.nf_base.specs.declared.packet.Fields.{Fields}
use Rattle.nf_base.specs.declared.packet.Packet.{Packet}
use Rattle.nf_base.specs.declared.done.Done.{Done}
use Rattle.nf_base.specs.declared.done.Action.{Action}
use Rattle.nf_base.specs.declared.state.State.{State}
use Rattle.nf_base.specs.Text.{Expression, Number, Read, Given, FallsOff, Forward, Discard, Creation, Block, End, Function}
use Rattle.nf_base.specs.Step.{opening}
use Rattle.nf_base.specs.Locations.{Location, no_numbers}
use Rattle.nf_base.specs.Runs.{Handling, RunResult, run, Report, reports}

-- a label or a free column of a width
abbrev pub column : Width → ColumnDecl
column w = record { name = []; width = w }

-- a map over so many labels from one on
abbrev pub map_of : ℕ → ℕ → MapDecl
map_of first parts = record { name = []; first = first; parts = parts }

-- a value of a width
abbrev pub valued : Width → Expression → Given
valued w value = record { width = w; value = value }

-- a field as a value of a width
abbrev pub read : Width → Field → Given
read w field = valued w (Read field)

-- a `new` of a chain, at a place, that gives its labels and binds its first variable
abbrev pub new_at : ℕ → ℕ → List Given → Creation
new_at place chain labels = record { place = place; chain = chain; labels = labels; var = 0 }

-- a block with nothing in it
abbrev pub nothing : Block
nothing = End FallsOff

-- `drop;`
abbrev pub drops : Block
drops = End Discard

-- `forward` to a port of a number
abbrev pub forwards : ℕ → Block
forwards port = End (Forward (Number port))

-- a UDP frame of 42 bytes from an address and a port to another
abbrev pub frame : ℕ → ℕ → ℕ → ℕ → Option Fields
frame a p b q = Some (record {
  length = 42;
  src_mac = 2199023255553;
  dst_mac = 2199023255554;
  addresses = addresses.Four a b;
  proto = 17;
  ttl = 64;
  src_port = p;
  dst_port = q;
})

-- a packet at a port, with its number there and its time
abbrev pub packet_at : ℕ → ℕ → ℕ → Option Fields → Packet
packet_at port seq time fields =
    record { id = record { port = port; seq = seq }; time = time; fields = fields }

-- with its choices
abbrev pub arrives : ℕ → ℕ → ℕ → Option Fields → List ℕ → Handling
arrives port seq time fields choices =
    record { packet = packet_at port seq time fields; choices = choices }

-- the run of a function from its first packet on
abbrev pub run_of : Function → List Handling → Option RunResult
run_of f hs = run f (opening f) hs

-- the state that a run comes to
abbrev pub state_of : Option RunResult → Option State
state_of None = None
state_of (Some r) = Some r.state

-- what it answers
abbrev pub dones_of : Option RunResult → List Done
dones_of None = []
dones_of (Some r) = r.answers

-- where it sends its packets
abbrev pub actions_of : Option RunResult → List Action
actions_of r = map (λ (done : Done). done.action) (dones_of r)

-- what is touched, packet by packet, from the first one on
abbrev pub touched_in : Function → List Handling → List (List Location)
touched_in f hs = map (λ (a : Report). a.touched) (reports f (opening f) no_numbers hs)
