-- Where a reader stands in a capture, and one whole block more.
use Rattle.std.specs.Prelude.{◌≡◌, ℕ, ◌+◌, ◌<◌, ◌≤◌, ◌^◌, Bool, true, false, List, [], length, Option, Some, None}
use Rattle.pcap_file.specs.declared.head.Head.{Head}
use Rattle.pcap_file.specs.Record.{greatest_time}
use Rattle.pcapng_file.specs.declared.step.Step.{Step}
use Rattle.pcapng_file.specs.declared.step.Step.TheVariants.{Stopped, Quiet, Frame, Other}
use Rattle.pcapng_file.specs.Heard.{Heard, head_of}
use Rattle.pcapng_file.specs.Blocks.{Section, Said, Gives}
use Rattle.pcapng_file.specs.Captures.{section_after, heard_by, quiet_after}

-- the section, how many blocks in a row were no packet, and the offset of the next block
pub record Place : Type 0 where
  pub section : Section
  pub quiet : ℕ
  pub offset : ℕ

-- the place behind a block of so many bytes
abbrev pub place_after : Place → ℕ → Said → Place
place_after p total said = record {
  section = section_after p.section said;
  quiet = quiet_after p.quiet said;
  offset = p.offset + total;
}

-- a block that is no packet, and not the 2^32-th in a row
pub record IsQuiet (old new : Place) (total : ℕ) (said : Option Said) : Type 0 where
  pub what : Said
  pub said_is : said ≡ Some what
  pub none : heard_by what ≡ []
  pub few : quiet_after old.quiet what < 2 ^ 32
  pub place_is : new ≡ place_after old total what

-- a packet, of Ethernet or not
pub record IsPacket (ethernet : Bool) (old new : Place) (total : ℕ) (said : Option Said) (frame : List ℕ) (head : Head) : Type 0 where
  pub what : Heard
  pub said_is : said ≡ Some (Gives what)
  pub kind : what.is_ethernet ≡ ethernet
  pub head_is : head ≡ head_of what
  pub frame_is : frame ≡ what.frame
  pub place_is : new ≡ place_after old total (Gives what)

-- a block that says nothing that it can, or the 2^32-th in a row that is no packet
abbrev pub IsStopped : ℕ → Option Said → Type 0
IsStopped quiet None = Unit {0}
IsStopped quiet (Some what) = 2 ^ 32 ≤ quiet_after quiet what

-- what an answer says of a whole block
abbrev pub Hears : Place → Place → ℕ → Option Said → List ℕ → Step → Type 0
Hears old new total said frame Stopped = IsStopped old.quiet said
Hears old new total said frame Quiet = IsQuiet old new total said
Hears old new total said frame (Frame head) = IsPacket true old new total said frame head
Hears old new total said frame (Other head) = IsPacket false old new total said frame head

-- how far a packet moves
pub record IsFar (old new : Place) (total : ℕ) (frame : List ℕ) (head : Head) : Type 0 where
  pub offset_is : new.offset ≡ old.offset + total
  pub captured_is : head.captured ≡ length frame
  pub captured_most : length frame ≤ 262144
  pub time_most : head.time ≤ greatest_time
  pub within : 16 + length frame ≤ total

-- what is known of an answer in any case
abbrev pub Moved : Place → Place → ℕ → List ℕ → List ℕ → Step → Type 0
Moved old new total old_frame frame Stopped = (frame ≡ old_frame) × (new.offset ≡ old.offset)
Moved old new total old_frame frame Quiet = (frame ≡ old_frame) × (new.offset ≡ old.offset + total) × (new.quiet ≡ old.quiet + 1) × (new.quiet < 2 ^ 32)
Moved old new total old_frame frame (Frame head) = IsFar old new total frame head
Moved old new total old_frame frame (Other head) = IsFar old new total frame head
