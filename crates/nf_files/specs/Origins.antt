-- Which file of the system an input is.
use Rattle.std.specs.Prelude.{ℕ, zero, suc, Bool, false, ◌&&◌, List, Option, Some, None, nat_eq}
use Rattle.std.specs.Str.{bytes_eq}
use Rattle.std.specs.List.{list_any}
use Rattle.nf_files.specs.declared.origin.Node.{Node}
use Rattle.nf_files.specs.declared.origin.Origin.{Origin}
use Rattle.nf_files.specs.declared.system_file.SystemFile.{SystemFile}
use Rattle.nf_files.specs.declared.system_file.SystemFile.TheVariants.{Input, Output}

-- the file of a device and a number there: the number 0 says that none is told
abbrev pub node_of : ℕ → ℕ → Option Node
node_of device zero = None
node_of device (suc n) = Some (record { device = device; number = suc n })

-- files with the same device and the same number there are one; where either isn't told, those of one
-- name are
abbrev pub is_same_node : Option Node → Option Node → Bool → Bool
is_same_node (Some own) (Some other) named = nat_eq own.device other.device && nat_eq own.number other.number
is_same_node None other named = named
is_same_node (Some own) None named = named

-- this is the file that was opened under a name
abbrev pub is_same : Origin → List ℕ → Option Node → Bool
is_same origin n other = is_same_node origin.node other (bytes_eq origin.name.items n)

-- a file that is read is the one that was opened under a name
abbrev pub is_input_of : {F : Type 0} → List ℕ → Option Node → SystemFile F → Bool
is_input_of n other (Input origin ahead) = is_same origin n other
is_input_of n other (Output file) = false

-- some file that is read is
abbrev pub is_read_of : {F : Type 0} → List ℕ → Option Node → List (SystemFile F) → Bool
is_read_of n other files = list_any (is_input_of n other) files
