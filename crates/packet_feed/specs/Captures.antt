-- A capture that is read from its file, one packet after the other, whatever its format.
use Rattle.std.specs.Prelude.{◌≡◌, ℕ, ◌+◌, ◌≤◌, Bool, true, false, not, List, [], ◌∷◌, length, Option, Some, None, option_map, Result, Ok, Err}
use Rattle.pcap_file.specs.declared.head.Head.{Head}
use Rattle.pcap_file.specs.declared.fault.CapFault.{CapFault}
use Rattle.pcap_file.specs.declared.fault.CapFault.TheVariants.{NotCapture, File, Memory}
use Rattle.pcap_file.specs.declared.reader.Next.{Next as NextRecord}
use Rattle.pcap_file.specs.declared.reader.Next.TheVariants as record_next
use Rattle.pcap_file.specs.Record.{greatest_time}
use Rattle.pcap_file.specs.Reading.{Reading, left_in}
use Rattle.pcap_file.specs.Taken.{AreTaken, AreAtMostTaken}
use Rattle.pcapng_file.specs.declared.reader.Next.{Next}
use Rattle.pcapng_file.specs.declared.reader.Next.TheVariants.{Frame, Other, End, Torn}
use Rattle.pcapng_file.specs.Heard.{Heard, Stream as Contents, behind, stream_of}
use Rattle.pcapng_file.specs.Blocks.{is_section}
use Rattle.pcapng_file.specs.Reading as blocks
use Rattle.packet_feed.specs.declared.captured.Captured.{Captured}
use Rattle.packet_feed.specs.declared.captured.Captured.TheVariants.{Pcap, Pcapng}
use Rattle.packet_feed.specs.Contents.{contents_of}

-- the file of a capture
abbrev pub file_in : Captured → ℕ
file_in (Pcap r) = r.file
file_in (Pcapng r) = r.file

-- whether it is a libpcap capture
abbrev pub is_pcap : Captured → Bool
is_pcap (Pcap r) = true
is_pcap (Pcapng r) = false

-- it is one where bytes, if they are told, don't begin as those of a pcapng capture do
abbrev pub IsKind : Option (List ℕ) → Captured → Type 0
IsKind None c = Unit {0}
IsKind (Some bytes) c = is_pcap c ≡ not (is_section bytes)

-- what a libpcap capture holds behind what was read of it, where the rest of its file is told
abbrev pub records_left : Reading → Option (List ℕ) → Option Contents
records_left r rest = option_map stream_of (left_in r.state r.form r.offset rest)

-- the same of any capture
abbrev pub left_of : Captured → Option (List ℕ) → Option Contents
left_of (Pcap r) rest = records_left r rest
left_of (Pcapng r) rest = blocks.left_of r rest

-- what the next record of a libpcap capture is
abbrev pub next_of : NextRecord → Next
next_of (record_next.Frame head) = Frame head
next_of record_next.End = End
next_of (record_next.Torn offset) = Torn offset

-- the packet that was read
abbrev pub packet_read : Bool → Head → List ℕ → Heard
packet_read is_ethernet head frame =
    record { time = head.time; original = head.original; frame = frame; is_ethernet = is_ethernet }

-- it was the next one
abbrev pub IsNext : Option Contents → Option Contents → Heard → Type 0
IsNext (Some before) (Some after) packet = before ≡ behind (packet ∷ []) after
IsNext (Some before) None packet = ⊥
IsNext None after packet = Unit {0}

-- none is left, and the capture ends so
abbrev pub IsOver : Option Contents → Option ℕ → Type 0
IsOver (Some before) torn = before ≡ record { heard = []; torn = torn }
IsOver None torn = Unit {0}

-- What an answer says of what was left before and is left now.
abbrev pub Steps : Option Contents → Option Contents → List ℕ → Result Next CapFault → Type 0
Steps before after frame (Ok (Frame head)) = IsNext before after (packet_read true head frame)
Steps before after frame (Ok (Other head)) = IsNext before after (packet_read false head frame)
Steps before after frame (Ok End) = IsOver before None
Steps before after frame (Ok (Torn offset)) = IsOver before (Some offset)
Steps before after frame (Err fault) = Unit {0}

-- a packet's time and its captured bytes are no more than a capture can hold
pub record Fits (head : Head) (frame : List ℕ) : Type 0 where
  pub time : head.time ≤ greatest_time
  pub captured : length frame ≤ 262144

-- What is known of the captured bytes that were read, in any case.
abbrev pub Moves : List ℕ → List ℕ → Result Next CapFault → Type 0
Moves old_frame frame (Ok (Frame head)) = Fits head frame
Moves old_frame frame (Ok (Other head)) = Fits head frame
Moves old_frame frame (Ok End) = frame ≡ old_frame
Moves old_frame frame (Ok (Torn offset)) = frame ≡ old_frame
Moves old_frame frame (Err fault) = Unit {0}

-- How many bytes are taken of a libpcap capture: those of the record that was read, none at the end, and
-- where it is torn no more than a record can have.
abbrev pub TakesRecord : Option (List ℕ) → Option (List ℕ) → List ℕ → Result Next CapFault → Type 0
TakesRecord old new frame (Ok (Frame head)) = AreTaken (16 + length frame) old new
TakesRecord old new frame (Ok (Other head)) = AreTaken (16 + length frame) old new
TakesRecord old new frame (Ok End) = AreTaken 0 old new
TakesRecord old new frame (Ok (Torn offset)) = AreAtMostTaken (16 + 262144) old new
TakesRecord old new frame (Err fault) = Unit {0}

-- what is left behind a header is what the bytes of the file hold
abbrev pub Begins : Option (List ℕ) → Option Contents → Type 0
Begins (Some bytes) (Some c) = contents_of bytes ≡ Some c
Begins (Some bytes) None = ⊥
Begins None c = Unit {0}

-- What reading a header comes to, where the rest of the file is told.
abbrev pub Heads : Option (List ℕ) → Option (List ℕ) → Result Captured CapFault → Type 0
Heads bytes rest (Ok c) = Begins bytes (left_of c rest)
Heads (Some bytes) rest (Err NotCapture) = contents_of bytes ≡ None
Heads None rest (Err NotCapture) = Unit {0}
Heads bytes rest (Err File) = Unit {0}
Heads bytes rest (Err Memory) = Unit {0}

-- what is known of a capture whose header was read: which file it is of, its format, and how much was
-- taken of a libpcap capture
pub record IsHeaded (file : ℕ) (bytes rest : Option (List ℕ)) (c : Captured) : Type 0 where
  pub file_is : file_in c ≡ file
  pub kind : IsKind bytes c
  pub taken : is_pcap c ≡ true → AreTaken 24 bytes rest
