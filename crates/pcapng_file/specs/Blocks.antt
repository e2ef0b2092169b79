-- One block of a pcapng capture (pcapng, "General Block Structure" and the blocks themselves).
use Rattle.std.specs.Prelude.{ℕ, ◌+◌, ◌-◌, ◌*◌, ◌%◌, ◌^◌, min, Bool, ◌&&◌, List, [], length, take, drop, nat_eq, nat_le, nat_lt, slice_get, if◌then◌else◌, Option, Some, None}
use Rattle.pcap_file.specs.declared.form.Endian.{Endian}
use Rattle.pcap_file.specs.declared.form.Endian.TheVariants.{Big, Little}
use Rattle.pcap_file.specs.Form.{number_in}
use Rattle.pcapng_file.specs.declared.interface.Interface.{Interface}
use Rattle.pcapng_file.specs.Heard.{Heard}
use Rattle.pcapng_file.specs.Options.{short_in, resolution_in, resolution_of, units_of, time_in}

-- a section: its byte order, and the interfaces described so far
pub record Section : Type 0 where
  pub order : Endian
  pub interfaces : List Interface

-- a section of which no interface was described yet
abbrev pub opened : Endian → Section
opened order = record { order = order; interfaces = [] }

-- what a whole block says: a section begins, an interface is described, a packet came; others are
-- stepped over
pub data Said : Type 0 where
  Begins : Section → Said
  Describes : Interface → Said
  Gives : Heard → Said
  Nothing : Said

-- ---- the header of a section

-- whether a block begins with the type of a section's header, which reads alike in both byte orders
abbrev pub is_section : List ℕ → Bool
is_section bytes = nat_eq (number_in Big bytes) 0x0a0d0d0a

-- whether the magic number of a section's header reads in this byte order
abbrev pub has_order : Endian → List ℕ → Bool
has_order order bytes = nat_eq (number_in order (drop 8 bytes)) 0x1a2b3c4d

-- the byte order of a section's header, by its magic number, if that reads in one
abbrev pub order_of : List ℕ → Option Endian
order_of bytes = if has_order Big bytes then Some Big else (if has_order Little bytes then Some Little else None)

-- a block's total length, which it says in front
abbrev pub total_in : Endian → List ℕ → ℕ
total_in order bytes = number_in order (drop 4 bytes)

-- whether a section's header of this byte order stands in front: its first 24 bytes are there, its
-- total length is 28 or more and a multiple of 4, and its major version is 1
abbrev pub is_header : Endian → List ℕ → Bool
is_header order bytes =
    nat_le 24 (length bytes)
    && (nat_le 28 (total_in order bytes)
    && (nat_eq (total_in order bytes % 4) 0
    && nat_eq (short_in order (drop 12 bytes)) 1))

abbrev pub header_with : List ℕ → Option Endian → Option Endian
header_with bytes None = None
header_with bytes (Some order) = if is_header order bytes then Some order else None

-- the byte order of the section that begins in front, if one does
abbrev pub header_in : List ℕ → Option Endian
header_in bytes = header_with bytes (order_of bytes)

-- The byte order of the block in front: that of its section, and of a section's header its own. There
-- is none where such a header is wrong.
abbrev pub block_order : Endian → List ℕ → Option Endian
block_order order bytes = if is_section bytes then header_in bytes else Some order

-- ---- a whole block

-- a block's total length, at an offset: at least 12, a multiple of 4, and it ends before byte 2^64
abbrev pub is_sized : Endian → ℕ → List ℕ → Bool
is_sized order offset bytes =
    nat_le 12 (total_in order bytes)
    && (nat_eq (total_in order bytes % 4) 0
    && nat_lt (offset + total_in order bytes) (2 ^ 64))

-- the total length that is said again in the last 4 bytes
abbrev pub closing_in : Endian → List ℕ → ℕ
closing_in order bytes = number_in order (drop (total_in order bytes - 4) bytes)

-- all of a block is there, and its length is said again at its end
abbrev pub is_closed : Endian → ℕ → List ℕ → Bool
is_closed order offset bytes =
    is_sized order offset bytes
    && (nat_le (total_in order bytes) (length bytes)
    && nat_eq (closing_in order bytes) (total_in order bytes))

-- the body of a whole block
abbrev pub body_in : Endian → List ℕ → List ℕ
body_in order bytes = take (total_in order bytes - 12) (drop 8 bytes)

-- ---- what it says

-- type 1: link type, reserved, the most bytes that are captured (0 for no bound), options; of a section
-- 256 at most, and each in 65,536 bytes
abbrev pub interface_in : Endian → List ℕ → Interface
interface_in order body = record {
  link = short_in order body;
  most = number_in order (drop 4 body);
  resolution = resolution_of (resolution_in order (drop 8 body));
}

abbrev pub interface_said : Section → List ℕ → Option Said
interface_said s body =
    if nat_le 8 (length body) && (nat_le (length body + 12) 65536 && nat_lt (length s.interfaces) 256)
    then Some (Describes (interface_in s.order body)) else None

-- whether a link type is Ethernet's
abbrev pub is_ethernet : Interface → Bool
is_ethernet interface = nat_eq interface.link 1

-- A packet of an interface, of whose captured bytes there have to be so many, at most 262,144.
abbrev pub heard_of : Interface → ℕ → ℕ → ℕ → List ℕ → Option Said
heard_of interface time original captured tail =
    if nat_le captured 262144 && nat_le captured (length tail)
    then Some (Gives (record {
      time = time;
      original = original;
      frame = take captured tail;
      is_ethernet = is_ethernet interface;
    })) else None

-- a time of 64 bits, whose high half stands first in either byte order
abbrev pub count_in : Endian → List ℕ → ℕ
count_in order bytes = number_in order bytes * 2 ^ 32 + number_in order (drop 4 bytes)

-- type 6: interface, time, captured length, original length, data
abbrev pub enhanced_by : Endian → List ℕ → Option Interface → Option Said
enhanced_by order body None = None
enhanced_by order body (Some interface) =
    heard_of interface (time_in (units_of interface.resolution) (count_in order (drop 4 body)))
    (number_in order (drop 16 body)) (number_in order (drop 12 body)) (drop 20 body)

abbrev pub enhanced_said : Section → List ℕ → Option Said
enhanced_said s body =
    if nat_le 20 (length body)
    then enhanced_by s.order body (slice_get s.interfaces (number_in s.order body))
    else None

-- how many bytes of a frame an interface captures
abbrev pub bounded : ℕ → ℕ → ℕ
bounded most original = if nat_eq most 0 then original else min original most

-- type 3: original length, data, of interface 0; it has no time of its own, and 0 is the least one
abbrev pub simple_by : Endian → List ℕ → Option Interface → Option Said
simple_by order body None = None
simple_by order body (Some interface) =
    heard_of interface 0 (number_in order body) (bounded interface.most (number_in order body)) (drop 4 body)

abbrev pub simple_said : Section → List ℕ → Option Said
simple_said s body =
    if nat_le 4 (length body) then simple_by s.order body (slice_get s.interfaces 0) else None

-- what a whole block of a section says, by its type; none where its body doesn't hold what it is to
abbrev pub said_by : Section → ℕ → List ℕ → Option Said
said_by s kind body =
    if nat_eq kind 1 then interface_said s body
    else (if nat_eq kind 6 then enhanced_said s body
    else (if nat_eq kind 3 then simple_said s body else Some Nothing))

-- what a whole block says, in its byte order; what a section's header holds behind its version is
-- stepped over
abbrev pub said_in : Section → Endian → List ℕ → Option Said
said_in s order bytes =
    if is_section bytes then Some (Begins (opened order))
    else said_by s (number_in order bytes) (body_in order bytes)

-- a whole block: how many bytes it has, and what it says
pub record Whole : Type 0 where
  pub size : ℕ
  pub said : Said

abbrev pub whole_of : ℕ → Option Said → Option Whole
whole_of size None = None
whole_of size (Some said) = Some (record { size = size; said = said })

abbrev pub block_by : Section → ℕ → List ℕ → Option Endian → Option Whole
block_by s offset bytes None = None
block_by s offset bytes (Some order) =
    if is_closed order offset bytes then whole_of (total_in order bytes) (said_in s order bytes) else None

-- the whole block that stands in front, at an offset, in a section; none where the capture is torn there
abbrev pub block_in : Section → ℕ → List ℕ → Option Whole
block_in s offset bytes = block_by s offset bytes (block_order s.order bytes)
