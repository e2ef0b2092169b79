-- The options of an interface, and the unit in which it counts time (pcapng, "Options" and "Interface
-- Description Block").
use Rattle.std.specs.Prelude.{ℕ, zero, suc, ◌+◌, ◌-◌, ◌*◌, ◌/◌, ◌^◌, min, ◌&&◌, List, length, drop, nat_eq, nat_le, slice_index, if◌then◌else◌, Option, Some, None}
use Rattle.byteorder.specs.Endian.{big_number, little_number}
use Rattle.pcap_file.specs.declared.form.Endian.{Endian}
use Rattle.pcap_file.specs.declared.form.Endian.TheVariants.{Big, Little}
use Rattle.pcap_file.specs.Record.{greatest_time}

-- the number of the first 2 bytes
abbrev pub short_in : Endian → List ℕ → ℕ
short_in Big bytes = big_number 2 bytes
short_in Little bytes = little_number 2 bytes

-- a length with what pads it to a multiple of 4
abbrev pub padded : ℕ → ℕ
padded n = (n + 3) / 4 * 4

-- the code of the option in front, and the length of its value
abbrev pub code_in : Endian → List ℕ → ℕ
code_in order bytes = short_in order bytes

abbrev pub length_in : Endian → List ℕ → ℕ
length_in order bytes = short_in order (drop 2 bytes)

-- The value of the first option 9 of one byte in a list of so many options at most. The list ends at
-- code 0, or where an option does not fit.
unfoldable pub resolution_within : ℕ → Endian → List ℕ → Option ℕ
resolution_within zero order bytes = None
resolution_within (suc most) order bytes =
    if nat_le 4 (length bytes)
    then (if nat_eq (code_in order bytes) 0 then None
    else (if nat_le (4 + length_in order bytes) (length bytes)
    then (if nat_eq (code_in order bytes) 9 && nat_eq (length_in order bytes) 1 then Some (slice_index bytes 4)
    else resolution_within most order (drop (4 + padded (length_in order bytes)) bytes))
    else None))
    else None

-- there are fewer options than bytes
unfoldable pub resolution_in : Endian → List ℕ → Option ℕ
resolution_in order bytes = resolution_within (length bytes) order bytes

-- without an option 9 of one byte it is 6, for microseconds
abbrev pub resolution_of : Option ℕ → ℕ
resolution_of None = 6
resolution_of (Some byte) = byte

-- how many units a second has, by the byte of option 9: its low 7 bits are k, and the unit is 10^-k
-- seconds, or 2^-k with the top bit set
abbrev pub units_of : ℕ → ℕ
units_of byte = if nat_le 128 byte then 2 ^ (byte - 128) else 10 ^ byte

-- so many units in nanoseconds, rounded down and capped
abbrev pub time_in : ℕ → ℕ → ℕ
time_in units count = min (count * 1000000000 / units) greatest_time
