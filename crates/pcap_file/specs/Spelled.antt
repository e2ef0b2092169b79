-- A capture, spelled: a header and records behind it; and the one form that is written.
use Rattle.std.specs.Prelude.{◌≡◌, ◌≢◌, ℕ, ◌+◌, false, List, [], ◌∷◌, ◌++◌, length, drop, Option, Some, None}
use Rattle.std.specs.List.{flat_map, AllByRecursion}
use Rattle.pcap_file.specs.declared.form.Endian.TheVariants.{Little}
use Rattle.pcap_file.specs.declared.form.TimeUnit.TheVariants.{Nanoseconds}
use Rattle.pcap_file.specs.declared.form.Endian.{Endian}
use Rattle.pcap_file.specs.declared.form.Form.{Form}
use Rattle.pcap_file.specs.Form.{form_of}
use Rattle.pcap_file.specs.Record.{Record, Fits, record_bytes}
use Rattle.pcap_file.specs.Capture.{Capture, is_whole}

-- the form of the captures that are written
abbrev pub written_form : Form
written_form = record { order = Little; unit = Nanoseconds }

-- the header that is written: magic number (nanoseconds), version 2.4, zone and accuracy 0, at most
-- 262,144 captured bytes, link type 1 (Ethernet)
abbrev pub header_bytes : List ℕ
header_bytes =
    0x4d ∷ 0x3c ∷ 0xb2 ∷ 0xa1 ∷ 2 ∷ 0 ∷ 4 ∷ 0 ∷ 0 ∷ 0 ∷ 0 ∷ 0 ∷ 0 ∷ 0 ∷ 0 ∷ 0 ∷ 0 ∷ 0 ∷ 4 ∷ 0 ∷ 1 ∷ 0 ∷ 0 ∷ 0 ∷ []

-- the bytes of a record as it is written
abbrev pub written_bytes : Record → List ℕ
written_bytes r = record_bytes Little r

-- a capture as it is written
abbrev pub capture_bytes : List Record → List ℕ
capture_bytes rs = header_bytes ++ flat_map written_bytes rs

-- How a capture ends behind its whole records: nothing follows, or bytes that are no whole record.
abbrev pub Ends : Endian → ℕ → List ℕ → Option ℕ → Type 0
Ends order offset left None = left ≡ []
Ends order offset left (Some torn) = (torn ≡ offset) × (left ≢ []) × (is_whole order offset left ≡ false)

-- bytes that spell the records of a capture behind its header, with what is left behind them
pub record IsSpelled (bytes : List ℕ) (c : Capture) : Type 0 where
  pub left : List ℕ
  pub header : form_of bytes ≡ Some c.form
  pub fits : AllByRecursion Fits c.records
  pub spelled : drop 24 bytes ≡ flat_map (record_bytes c.form.order) c.records ++ left
  pub ends : Ends c.form.order (24 + length (flat_map (record_bytes c.form.order) c.records)) left c.torn
