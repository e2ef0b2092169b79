-- A capture that is read from a file, one record after the other.
use Rattle.std.specs.Prelude.{◌≡◌, ℕ, ◌+◌, ◌≤◌, true, List, [], ◌∷◌, ◌++◌, length, Option, Some, None, option_map, Result, Ok, Err}
use Rattle.nf_files.specs.Told.{Told}
use Rattle.pcap_file.specs.declared.form.Endian.{Endian}
use Rattle.pcap_file.specs.declared.form.Form.{Form}
use Rattle.pcap_file.specs.declared.head.Head.{Head}
use Rattle.pcap_file.specs.declared.reader.State.{State}
use Rattle.pcap_file.specs.declared.reader.State.TheVariants.{Going, Ended, Cut}
use Rattle.pcap_file.specs.declared.reader.Next.{Next}
use Rattle.pcap_file.specs.declared.reader.Next.TheVariants.{Frame, End, Torn}
use Rattle.pcap_file.specs.declared.fault.CapFault.{CapFault}
use Rattle.pcap_file.specs.declared.fault.CapFault.TheVariants.{NotCapture, File, Memory}
use Rattle.pcap_file.specs.Record.{Record, greatest_time, head_of}
use Rattle.pcap_file.specs.Capture.{Capture, captured_in, is_whole, capture_from, capture_of, behind}

-- a capture on its way: its form, the offset of the next record, the file, and whether its end was found
pub record Reading : Type 0 where
  pub form : Form
  pub offset : ℕ
  pub file : ℕ
  pub state : State

-- what a capture comes to from the next record on, where the rest of its file is told
abbrev pub left_in : State → Form → ℕ → Option (List ℕ) → Option Capture
left_in Going form offset bytes = option_map (capture_from form offset) bytes
left_in Ended form offset bytes = Some (record { form = form; records = []; torn = None })
left_in Cut form offset bytes = Some (record { form = form; records = []; torn = Some offset })

-- the same of a reader
abbrev pub left : Reading → Told → Option Capture
left r told = left_in r.state r.form r.offset (told.rest r.file)

-- the answer that stays, once the end was found
abbrev pub end_of : State → ℕ → Option Next
end_of Going offset = None
end_of Ended offset = Some End
end_of Cut offset = Some (Torn offset)

-- the record that was read is the next one of a capture
pub record IsNext (before after : Capture) (frame : List ℕ) (head : Head) : Type 0 where
  pub next : Record
  pub first : before ≡ behind (next ∷ []) after
  pub frame_is : frame ≡ next.frame
  pub head_is : head ≡ head_of before.form.unit next

-- What an answer says of the capture that was left before and is left now: the next record was taken
-- off it, or there is none and it ends so.
abbrev pub Steps : Option Capture → Option Capture → List ℕ → Result Next CapFault → Type 0
Steps (Some before) (Some after) frame (Ok (Frame head)) = IsNext before after frame head
Steps (Some before) (Some after) frame (Ok End) = (before.records ≡ []) × (before.torn ≡ None)
Steps (Some before) (Some after) frame (Ok (Torn offset)) = (before.records ≡ []) × (before.torn ≡ Some offset)
Steps (Some before) None frame (Ok next) = ⊥
Steps None after frame (Ok next) = Unit {0}
Steps before after frame (Err fault) = Unit {0}

-- What is known of an answer in any case: how far the reader moved, and whether it found the end.
abbrev pub Moves : Reading → Reading → List ℕ → List ℕ → Result Next CapFault → Type 0
Moves old new old_frame frame (Ok (Frame head)) =
    (new.offset ≡ old.offset + (16 + length frame)) × (head.captured ≡ length frame) × (length frame ≤ 262144) × (head.time ≤ greatest_time) × (end_of new.state new.offset ≡ None)
Moves old new old_frame frame (Ok End) = (frame ≡ old_frame) × (end_of new.state new.offset ≡ Some End)
Moves old new old_frame frame (Ok (Torn offset)) = (frame ≡ old_frame) × (offset ≡ old.offset) × (end_of new.state new.offset ≡ Some (Torn offset))
Moves old new old_frame frame (Err fault) = Unit {0}

-- what bytes say of a header: what is left is the capture that they are
abbrev pub Begins : Option (List ℕ) → Option Capture → Type 0
Begins (Some bytes) (Some c) = capture_of bytes ≡ Some c
Begins (Some bytes) None = ⊥
Begins None c = Unit {0}

-- What reading a header comes to, where the rest of the file is told.
abbrev pub Heads : Option (List ℕ) → Told → Result Reading CapFault → Type 0
Heads bytes now (Ok r) = Begins bytes (left r now)
Heads (Some bytes) now (Err NotCapture) = capture_of bytes ≡ None
Heads None now (Err NotCapture) = Unit {0}
Heads bytes now (Err File) = Unit {0}
Heads bytes now (Err Memory) = Unit {0}

-- what a reader of a file holds behind the header
pub record IsOpened (file : ℕ) (r : Reading) : Type 0 where
  pub file_is : r.file ≡ file
  pub offset_is : r.offset ≡ 24
  pub going : r.state ≡ Going

-- What was taken tells whether a whole record comes next, and whether nothing comes.
abbrev pub IsReached : Endian → ℕ → List ℕ → Option (List ℕ) → Type 0
IsReached order offset held None = Unit {0}
IsReached order offset held (Some rest) = (is_whole order offset (held ++ rest) ≡ is_whole order offset held) × (held ≡ [] → rest ≡ [])

-- Of a whole record no byte more was taken.
abbrev pub IsOnly : Endian → ℕ → List ℕ → Type 0
IsOnly order offset held = is_whole order offset held ≡ true → length held ≡ 16 + captured_in order held
