-- The handlers of a function, in text order of ports, and of a port that for IPv4 first.
use Rattle.std.specs.Prelude.{◌≡◌, ℕ, Bool, true, false, is_some, IsSome, List, [], ◌∷◌, map, length, Option, Some, None, slice_get, slice_index_or}
use Rattle.std.specs.List.{flat_map, range_with_len}
use Rattle.std.specs.Option.{option_and_then}
use Rattle.nf_base.specs.declared.packet.Family.{Family}
use Rattle.nf_base.specs.declared.packet.Family.TheVariants.{Four, Six}
use Rattle.nf_base.specs.declared.packet.Door.{Door}
use Rattle.nf_base.specs.declared.packet.Fields.{Fields}
use Rattle.nf_base.specs.declared.packet.Packet.{Packet}
use Rattle.nf_base.specs.Families.{family_of, door_of}
use Rattle.nf_base.specs.Text.{Block, PortBlocks, Function}

-- a handler, where there is one
abbrev pub listed : Option Block → List Block
listed None = []
listed (Some block) = block ∷ []

-- the handlers of a port
abbrev pub port_blocks : PortBlocks → List Block
port_blocks h = h.four ∷ listed h.six

-- a port with a handler for IPv4 alone
abbrev pub only_four : Block → PortBlocks
only_four block = record { four = block; six = None }

-- the handlers of a function
abbrev pub blocks : Function → List Block
blocks f = flat_map port_blocks f.handlers

-- a port's handler for a family
abbrev pub handler_in : Family → PortBlocks → Option Block
handler_in Four h = Some h.four
handler_in Six h = h.six

-- the handler of a port for a family
abbrev pub handler_at : Function → Door → Option Block
handler_at f door = option_and_then (handler_in door.family) (slice_get f.handlers door.port)

-- the two doors of a port
abbrev pub doors_at : ℕ → List Door
doors_at port = record { port = port; family = Four } ∷ record { port = port; family = Six } ∷ []

-- all doors, by port, and at a port that for IPv4 first
abbrev pub doors_of : Function → List Door
doors_of f = flat_map doors_at (range_with_len 0 (length f.handlers))

-- a packet that is skipped, or for which its port has a handler
abbrev pub IsServed : Function → Packet → Type 0
IsServed f packet =
    (fields : Fields) → packet.fields ≡ Some fields →
    IsSome (handler_at f (door_of packet.id.port fields))

-- whether a port has a handler for IPv6
abbrev pub has_six : PortBlocks → Bool
has_six h = is_some h.six

-- the same of each port of a function
abbrev pub six_ports : Function → List Bool
six_ports f = map has_six f.handlers

-- the same of one of them
abbrev pub six_at : List Bool → ℕ → Bool
six_at ports port = slice_index_or ports port false

-- fields, where a port that has a handler for IPv6 or has none has one for them
abbrev pub served_as : Family → Bool → Fields → Option Fields
served_as Four six fields = Some fields
served_as Six true fields = Some fields
served_as Six false fields = None

-- The fields of a frame as its port's handlers see them: none where it is skipped, and none of an
-- IPv6 frame at a port without a handler for these.
abbrev pub served_fields : Bool → Option Fields → Option Fields
served_fields six None = None
served_fields six (Some fields) = served_as (family_of fields) six fields
