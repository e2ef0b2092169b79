-- The function that a text stands for.
use Rattle.std.specs.Prelude.{ℕ, ◌+◌, ◌==◌, ◌&&◌, Bool, List, [], ◌∷◌, Option, Some, None, if◌then◌else◌, map}
use Rattle.std.specs.List.{range_with_len}
use Rattle.std.specs.Option.{option_map}
use Rattle.nf_base.specs.Text.{Block, End, FallsOff, PortBlocks, Function}
use Rattle.nf_base.specs.declared.packet.Family.{Family}
use Rattle.nf_base.specs.declared.packet.Family.TheVariants.{Four, Six}
use Rattle.nf_tree.specs.Tree as tree
use Rattle.nf_types.specs.Fields.{same_family}
use Rattle.nf_types.specs.Places.{places}
use Rattle.nf_types.specs.Declarations.{objects_of}
use Rattle.nf_types.specs.declared.objects.Objects.{Objects}
use Rattle.nf_types.specs.Blocks.{checked_block}

-- whether a handler is that of a port for a version of IP
abbrev pub is_at : ℕ → Family → tree.Handler → Bool
is_at port family h = h.port.value == port && same_family h.family family

-- how many places some handlers have
abbrev pub all_places : List tree.Handler → ℕ
all_places [] = 0
all_places (h ∷ hs) = places h.block + all_places hs

-- the block of a port for a version of IP, and how many places stand before it in the text
abbrev pub block_at : ℕ → Family → (before : ℕ) → List tree.Handler → Option (ℕ × tree.Block)
block_at port family before [] = None
block_at port family before (h ∷ hs) =
    if is_at port family h then Some (before, h.block)
    else block_at port family (before + places h.block) hs

-- the block that was found stands for
abbrev pub checked_found : Objects → ℕ × tree.Block → Block
checked_found o found = checked_block found.0 o [] found.1

-- the same; a port without a handler for IPv4 does nothing
abbrev pub checked_at : Objects → Option (ℕ × tree.Block) → Block
checked_at o None = End FallsOff
checked_at o (Some found) = checked_found o found

-- the handler of a port for IPv4
unfoldable pub four_at : Objects → List tree.Handler → ℕ → Block
four_at o hs port = checked_at o (block_at port Four 0 hs)

-- the handler of a port for IPv6, where it has one
unfoldable pub six_at : Objects → List tree.Handler → ℕ → Option Block
six_at o hs port = option_map (checked_found o) (block_at port Six 0 hs)

-- the handlers of a port
abbrev pub port_at : Objects → List tree.Handler → ℕ → PortBlocks
port_at o hs port = record { four = four_at o hs port; six = six_at o hs port }

-- the handlers stand by port, whatever their order in the text
abbrev pub handlers_of : Objects → ℕ → List tree.Handler → List PortBlocks
handlers_of o ports hs = map (port_at o hs) (range_with_len 0 ports)

-- the function of a text that declares these chains and arrays
abbrev pub function_with : tree.Tree → Objects → Function
function_with t o = record {
  name = t.name.bytes;
  chains = o.chains;
  arrays = o.arrays;
  objects = o.order;
  handlers = handlers_of o t.ports.value t.handlers;
}

-- the function of a text
abbrev pub function : tree.Tree → Function
function t = function_with t (objects_of t.declarations)
