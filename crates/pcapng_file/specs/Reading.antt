-- A pcapng capture that is read from a file, one packet after the other.
use Rattle.std.specs.Prelude.{◌≡◌, ℕ, ◌+◌, ◌<◌, ◌≤◌, ◌^◌, Bool, true, false, List, [], ◌∷◌, ◌++◌, length, Option, Some, None, option_map, Result, Ok, Err}
use Rattle.nf_files.specs.Told.{Told}
use Rattle.pcap_file.specs.declared.head.Head.{Head}
use Rattle.pcap_file.specs.declared.reader.State.{State}
use Rattle.pcap_file.specs.declared.reader.State.TheVariants.{Going, Ended, Cut}
use Rattle.pcap_file.specs.declared.fault.CapFault.{CapFault}
use Rattle.pcap_file.specs.declared.fault.CapFault.TheVariants.{NotCapture, File, Memory}
use Rattle.pcap_file.specs.Record.{greatest_time}
use Rattle.pcap_file.specs.Held.{to_come}
use Rattle.pcapng_file.specs.declared.reader.Next.{Next}
use Rattle.pcapng_file.specs.declared.reader.Next.TheVariants.{Frame, Other, End, Torn}
use Rattle.pcapng_file.specs.Heard.{Heard, Stream, behind, head_of}
use Rattle.pcapng_file.specs.Blocks.{Section}
use Rattle.pcapng_file.specs.Captures.{stream_from, ng_stream_of}

-- a capture on its way: its section, how many blocks in a row were no packet, the offset of the next
-- block, what is held of that, the file, and whether the capture's end was found
pub record Reading : Type 0 where
  pub section : Section
  pub quiet : ℕ
  pub offset : ℕ
  pub held : List ℕ
  pub file : ℕ
  pub state : State

-- a capture that ends, or is torn
abbrev pub none_left : Option ℕ → Stream
none_left torn = record { heard = []; torn = torn }

-- what a capture comes to from the next block on, where the rest of its file is told
abbrev pub left_in : State → Section → ℕ → ℕ → Option (List ℕ) → Option Stream
left_in Going section quiet offset bytes = option_map (stream_from section quiet offset) bytes
left_in Ended section quiet offset bytes = Some (none_left None)
left_in Cut section quiet offset bytes = Some (none_left (Some offset))

-- the same of a reader
abbrev pub left_of : Reading → Option (List ℕ) → Option Stream
left_of r rest = left_in r.state r.section r.quiet r.offset (to_come r.held rest)

abbrev pub left : Reading → Told → Option Stream
left r told = left_of r (told.rest r.file)

-- the answer that stays, once the end was found
abbrev pub end_of : State → ℕ → Option Next
end_of Going offset = None
end_of Ended offset = Some End
end_of Cut offset = Some (Torn offset)

-- the packet that was read is the next one of a capture, and is of Ethernet or not
pub record IsNext (ethernet : Bool) (before after : Stream) (frame : List ℕ) (head : Head) : Type 0 where
  pub next : Heard
  pub first : before ≡ behind (next ∷ []) after
  pub kind : next.is_ethernet ≡ ethernet
  pub frame_is : frame ≡ next.frame
  pub head_is : head ≡ head_of next

-- What an answer says of the capture that was left before and is left now: the next packet was taken
-- off it, or there is none and it ends so.
abbrev pub Steps : Option Stream → Option Stream → List ℕ → Result Next CapFault → Type 0
Steps (Some before) (Some after) frame (Ok (Frame head)) = IsNext true before after frame head
Steps (Some before) (Some after) frame (Ok (Other head)) = IsNext false before after frame head
Steps (Some before) (Some after) frame (Ok End) = before ≡ none_left None
Steps (Some before) (Some after) frame (Ok (Torn offset)) = before ≡ none_left (Some offset)
Steps (Some before) None frame (Ok next) = ⊥
Steps None after frame (Ok next) = Unit {0}
Steps before after frame (Err fault) = Unit {0}

-- a packet was given, and the reader moved behind its block
pub record IsGiven (old new : Reading) (frame : List ℕ) (head : Head) : Type 0 where
  pub behind : old.offset + (16 + length frame) ≤ new.offset
  pub captured_is : head.captured ≡ length frame
  pub captured_most : length frame ≤ 262144
  pub time_most : head.time ≤ greatest_time
  pub going : end_of new.state new.offset ≡ None

-- What is known of an answer in any case: how far the reader moved, and whether it found the end.
abbrev pub Moves : Reading → Reading → List ℕ → List ℕ → Result Next CapFault → Type 0
Moves old new old_frame frame (Ok (Frame head)) = IsGiven old new frame head
Moves old new old_frame frame (Ok (Other head)) = IsGiven old new frame head
Moves old new old_frame frame (Ok End) = (frame ≡ old_frame) × (end_of new.state new.offset ≡ Some End)
Moves old new old_frame frame (Ok (Torn offset)) = (frame ≡ old_frame) × (old.offset ≤ offset) × (end_of new.state new.offset ≡ Some (Torn offset))
Moves old new old_frame frame (Err fault) = Unit {0}

-- what bytes say of a header: what is left is the capture that they are
abbrev pub Begins : Option (List ℕ) → Option Stream → Type 0
Begins (Some bytes) (Some c) = ng_stream_of bytes ≡ Some c
Begins (Some bytes) None = ⊥
Begins None c = Unit {0}

-- What reading a header comes to, where the rest of the file is told.
abbrev pub Heads : Option (List ℕ) → Told → Result Reading CapFault → Type 0
Heads bytes now (Ok r) = Begins bytes (left r now)
Heads (Some bytes) now (Err NotCapture) = ng_stream_of bytes ≡ None
Heads None now (Err NotCapture) = Unit {0}
Heads bytes now (Err File) = Unit {0}
Heads bytes now (Err Memory) = Unit {0}

-- what a reader of a file holds behind the header
pub record IsOpened (file : ℕ) (r : Reading) : Type 0 where
  pub file_is : r.file ≡ file
  pub offset_is : r.offset ≡ 0
  pub going : r.state ≡ Going

-- what an answer to one block says of a capture, where the rest of its file is told: nothing that is
-- heard was lost
abbrev pub Stepped : Stream → Option Stream → List ℕ → Option Next → Type 0
Stepped before after frame None = after ≡ Some before
Stepped before after frame (Some next) = Steps (Some before) after frame (Ok next)

-- what is known of an answer to one block in any case
pub record IsPassed (old new : Reading) (old_frame frame : List ℕ) : Type 0 where
  pub frame_is : frame ≡ old_frame
  pub behind : old.offset ≤ new.offset
  pub going : new.state ≡ Going
  pub quiet_is : new.quiet ≡ old.quiet + 1
  pub quiet_few : new.quiet < 2 ^ 32

abbrev pub StepMoves : Reading → Reading → List ℕ → List ℕ → Option Next → Type 0
StepMoves old new old_frame frame None = IsPassed old new old_frame frame
StepMoves old new old_frame frame (Some next) = Moves old new old_frame frame (Ok next)
