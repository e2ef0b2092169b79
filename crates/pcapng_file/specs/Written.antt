-- The one form that is written: a section in little-endian with one interface of Ethernet in
-- nanoseconds, and type 6 blocks of it.
use Rattle.std.specs.Prelude.{ℕ, ◌+◌, ◌-◌, ◌/◌, ◌%◌, ◌^◌, ◌<◌, ◌≤◌, List, [], ◌∷◌, ◌++◌, length, replicate}
use Rattle.std.specs.List.{flat_map}
use Rattle.pcap_file.specs.declared.form.Endian.TheVariants.{Little}
use Rattle.pcap_file.specs.Form.{bytes_in}
use Rattle.pcap_file.specs.Record.{greatest_time}
use Rattle.pcapng_file.specs.Heard.{Heard}
use Rattle.pcapng_file.specs.Blocks.{Section}

-- the section's header, with no length of the section, and the interface, with at most 262,144 captured
-- bytes and option 9
unfoldable pub ng_header_bytes : List ℕ
ng_header_bytes =
    0x0a ∷ 0x0d ∷ 0x0d ∷ 0x0a ∷ 0x1c ∷ 0 ∷ 0 ∷ 0 ∷ 0x4d ∷ 0x3c ∷ 0x2b ∷ 0x1a ∷ 1 ∷ 0 ∷ 0 ∷ 0
    ∷ 0xff ∷ 0xff ∷ 0xff ∷ 0xff ∷ 0xff ∷ 0xff ∷ 0xff ∷ 0xff ∷ 0x1c ∷ 0 ∷ 0 ∷ 0
    ∷ 1 ∷ 0 ∷ 0 ∷ 0 ∷ 0x20 ∷ 0 ∷ 0 ∷ 0 ∷ 1 ∷ 0 ∷ 0 ∷ 0 ∷ 0 ∷ 0 ∷ 4 ∷ 0
    ∷ 9 ∷ 0 ∷ 1 ∷ 0 ∷ 9 ∷ 0 ∷ 0 ∷ 0 ∷ 0 ∷ 0 ∷ 0 ∷ 0 ∷ 0x20 ∷ 0 ∷ 0 ∷ 0 ∷ []

-- the section behind it
abbrev pub written_section : Section
written_section = record {
  order = Little;
  interfaces = record { link = 1; most = 262144; resolution = 9 } ∷ [];
}

-- how many zeros stand behind so many captured bytes: up to a multiple of 4
abbrev pub padding : ℕ → ℕ
padding captured = (4 - captured % 4) % 4

-- how many bytes the block of a packet has with so many captured bytes
abbrev pub block_length : ℕ → ℕ
block_length captured = 32 + (captured + padding captured)

-- what stands in front of a frame: type 6, length, interface 0, the time's high and low 32 bits, captured
-- and original length
abbrev pub block_lead : ℕ → ℕ → ℕ → List ℕ
block_lead time original captured =
    bytes_in Little 6 ++ (bytes_in Little (block_length captured) ++ (bytes_in Little 0
    ++ (bytes_in Little (time / 4294967296) ++ (bytes_in Little (time % 4294967296)
    ++ (bytes_in Little captured ++ bytes_in Little original)))))

-- what stands behind it: zeros, and the length again
abbrev pub block_trail : ℕ → List ℕ
block_trail captured = replicate (padding captured) 0 ++ bytes_in Little (block_length captured)

-- the block of a frame that came at a time, in nanoseconds, with its length on the wire
abbrev pub block_bytes : ℕ → ℕ → List ℕ → List ℕ
block_bytes time original frame = block_lead time original (length frame) ++ (frame ++ block_trail (length frame))

-- what fits such a block
pub record Fits (time original : ℕ) (frame : List ℕ) : Type 0 where
  pub time_fits : time ≤ greatest_time
  pub original_fits : original < 2 ^ 32
  pub frame_fits : length frame ≤ 262144

-- the block of a packet
abbrev pub written_block : Heard → List ℕ
written_block h = block_bytes h.time h.original h.frame

-- a capture as it is written
abbrev pub ng_capture_bytes : List Heard → List ℕ
ng_capture_bytes hs = ng_header_bytes ++ flat_map written_block hs
