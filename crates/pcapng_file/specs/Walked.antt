-- A list of options that is walked through, one option after the other.
use Rattle.std.specs.Prelude.{ℕ, ◌≤◌, List, drop, Option, Some, None}
use Rattle.pcap_file.specs.declared.form.Endian.{Endian}
use Rattle.pcapng_file.specs.declared.resolution.Found.{Found}
use Rattle.pcapng_file.specs.declared.resolution.Found.TheVariants.{End, Resolution, Other}
use Rattle.pcapng_file.specs.Options.{resolution_in}

-- what a list says of the unit, after what its first option says
abbrev pub resolution_behind : Endian → List ℕ → Found → Option ℕ
resolution_behind order bytes End = None
resolution_behind order bytes (Resolution byte) = Some byte
resolution_behind order bytes (Other size) = resolution_in order (drop size bytes)

-- an option that is stepped over has 4 bytes or more
abbrev pub moves_on : Found → Type 0
moves_on End = Unit {0}
moves_on (Resolution byte) = Unit {0}
moves_on (Other size) = 4 ≤ size
