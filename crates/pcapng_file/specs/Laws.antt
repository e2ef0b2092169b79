-- Laws of pcapng captures.
use Rattle.std.specs.Prelude.{◌≡◌, ℕ, ◌+◌, ◌≤◌, ◌<◌, ◌^◌, true, List, [], ◌∷◌, ◌++◌, length, Some}
use Rattle.std.specs.List.{AllByRecursion}
use Rattle.pcapng_file.specs.Heard.{Heard, behind}
use Rattle.pcapng_file.specs.Blocks.{Section, Whole, Gives, block_in}
use Rattle.pcapng_file.specs.Captures.{stream_from, ng_stream_of}
use Rattle.pcapng_file.specs.Written.{written_section, written_block, ng_capture_bytes, block_length, block_bytes, Fits}

-- a packet that was written is read again, whatever follows it
abbrev pub WrittenBlocksAreRead : Type 0
WrittenBlocksAreRead =
    (offset time original : ℕ) (frame left : List ℕ) → Fits time original frame → offset + block_length (length frame) < 2 ^ 64 →
    block_in written_section offset (block_bytes time original frame ++ left)
    ≡ Some (record {
      size = block_length (length frame);
      said = Gives (record { time = time; original = original; frame = frame; is_ethernet = true });
    })

-- a packet that a capture can be written with
pub record IsWritable (h : Heard) : Type 0 where
  pub fits : Fits h.time h.original h.frame
  pub ethernet : h.is_ethernet ≡ true

-- how many blocks in a row that are no packet stand at the end of a written capture: its two headers,
-- where nothing follows them
abbrev pub quiet_behind : List Heard → ℕ
quiet_behind [] = 2
quiet_behind (h ∷ hs) = 0

-- What was written is read again, whatever follows it: the same packets, at the same times, lengths and
-- bytes.
abbrev pub WrittenCapturesAreRead : Type 0
WrittenCapturesAreRead =
    (hs : List Heard) (left : List ℕ) → AllByRecursion IsWritable hs → length (ng_capture_bytes hs) < 2 ^ 64 →
    ng_stream_of (ng_capture_bytes hs ++ left)
    ≡ Some (behind hs (stream_from written_section (quiet_behind hs) (length (ng_capture_bytes hs)) left))

-- a whole block moves on by at least 12 bytes, and is all there
abbrev pub BlocksMoveOn : Type 0
BlocksMoveOn =
    (s : Section) (offset : ℕ) (bytes : List ℕ) (w : Whole) → block_in s offset bytes ≡ Some w →
    (12 ≤ w.size) × (w.size ≤ length bytes) × (offset + w.size < 2 ^ 64)
