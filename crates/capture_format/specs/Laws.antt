-- Laws of captures as they are written.
use Rattle.std.specs.Prelude.{◌≡◌, ℕ, ◌+◌, List, [], ◌∷◌, ◌++◌, length}
use Rattle.capture_format.specs.declared.format.CaptureFormat.{CaptureFormat}
use Rattle.capture_format.specs.declared.format.CaptureFormat.TheVariants.{Pcapng}
use Rattle.capture_format.specs.Written.{head_bytes, head_length, packet_bytes, lead_length, packet_length}

-- a section header of 28 bytes and an interface of 32
abbrev pub HeadsAreSpelled : Type 0
HeadsAreSpelled = head_bytes Pcapng ≡
    0x0a ∷ 0x0d ∷ 0x0d ∷ 0x0a ∷ 0x1c ∷ 0 ∷ 0 ∷ 0 ∷ 0x4d ∷ 0x3c ∷ 0x2b ∷ 0x1a ∷ 1 ∷ 0 ∷ 0 ∷ 0
    ∷ 0xff ∷ 0xff ∷ 0xff ∷ 0xff ∷ 0xff ∷ 0xff ∷ 0xff ∷ 0xff ∷ 0x1c ∷ 0 ∷ 0 ∷ 0
    ∷ 1 ∷ 0 ∷ 0 ∷ 0 ∷ 0x20 ∷ 0 ∷ 0 ∷ 0 ∷ 1 ∷ 0 ∷ 0 ∷ 0 ∷ 0 ∷ 0 ∷ 4 ∷ 0
    ∷ 9 ∷ 0 ∷ 1 ∷ 0 ∷ 9 ∷ 0 ∷ 0 ∷ 0 ∷ 0 ∷ 0 ∷ 0 ∷ 0 ∷ 0x20 ∷ 0 ∷ 0 ∷ 0 ∷ []

-- what captures begin with has one length in each format
abbrev pub HeadsAreLong : Type 0
HeadsAreLong = (format : CaptureFormat) → length (head_bytes format) ≡ head_length format

-- Five bytes of a frame of six, 4,294,967,298 nanoseconds after the epoch: 40 bytes, with three zeros
-- behind the frame.
abbrev pub APacketInPcapng : Type 0
APacketInPcapng = packet_bytes Pcapng 4294967298 6 (1 ∷ 2 ∷ 3 ∷ 4 ∷ 5 ∷ []) ≡
    6 ∷ 0 ∷ 0 ∷ 0 ∷ 40 ∷ 0 ∷ 0 ∷ 0 ∷ 0 ∷ 0 ∷ 0 ∷ 0 ∷ 1 ∷ 0 ∷ 0 ∷ 0 ∷ 2 ∷ 0 ∷ 0 ∷ 0
    ∷ 5 ∷ 0 ∷ 0 ∷ 0 ∷ 6 ∷ 0 ∷ 0 ∷ 0 ∷ 1 ∷ 2 ∷ 3 ∷ 4 ∷ 5 ∷ 0 ∷ 0 ∷ 0 ∷ 40 ∷ 0 ∷ 0 ∷ 0 ∷ []

-- What stands around a frame of so many bytes, whichever they are: so many in front of it, and so many in
-- all.
pub record IsAround (format : CaptureFormat) (time original captured : ℕ) : Type 0 where
  pub front : List ℕ
  pub back : List ℕ
  pub parts : (frame : List ℕ) → length frame ≡ captured → packet_bytes format time original frame ≡ front ++ (frame ++ back)
  pub front_long : length front ≡ lead_length format
  pub all_long : length front + (captured + length back) ≡ packet_length format captured

-- a packet's frame stands in it as it is, and what stands around it goes by its length alone
abbrev pub PacketsHoldTheirFrames : Type 0
PacketsHoldTheirFrames = (format : CaptureFormat) (time original captured : ℕ) → IsAround format time original captured
