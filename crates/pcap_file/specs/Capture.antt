-- A capture as a function of its bytes (libpcap file format 2.4): its form, its whole records, and the
-- offset of the record in which it is torn.
use Rattle.std.specs.Prelude.{ℕ, zero, suc, ◌+◌, ◌^◌, Bool, ◌&&◌, List, [], ◌∷◌, ◌++◌, length, take, drop, nat_le, nat_lt, if◌then◌else◌, Option, Some, None, option_map}
use Rattle.pcap_file.specs.declared.form.Endian.{Endian}
use Rattle.pcap_file.specs.declared.form.Form.{Form}
use Rattle.pcap_file.specs.Form.{number_in, form_of}
use Rattle.pcap_file.specs.Record.{Record}

-- a capture: its form, its whole records in file order, and the offset of the torn one behind them
pub record Capture : Type 0 where
  pub form : Form
  pub records : List Record
  pub torn : Option ℕ

-- how many bytes of a frame the record in front says that were captured
abbrev pub captured_in : Endian → List ℕ → ℕ
captured_in order bytes = number_in order (drop 8 bytes)

-- The record in front, at this offset of the file, says that at most 262,144 bytes were captured, and
-- doesn't end past byte 2^64 - 1.
abbrev pub is_sized : Endian → ℕ → List ℕ → Bool
is_sized order offset bytes = nat_le (captured_in order bytes) 262144 && nat_lt (offset + (16 + captured_in order bytes)) (2 ^ 64)

-- a whole record stands in front
abbrev pub is_whole : Endian → ℕ → List ℕ → Bool
is_whole order offset bytes =
    nat_le 16 (length bytes) && (is_sized order offset bytes && nat_le (16 + captured_in order bytes) (length bytes))

-- the record in front
abbrev pub record_in : Endian → List ℕ → Record
record_in order bytes = record {
  seconds = number_in order bytes;
  fraction = number_in order (drop 4 bytes);
  original = number_in order (drop 12 bytes);
  frame = take (captured_in order bytes) (drop 16 bytes);
}

-- what a capture comes to from an offset on, where no whole record stands there
abbrev pub no_record : Form → ℕ → List ℕ → Capture
no_record form offset [] = record { form = form; records = []; torn = None }
no_record form offset (b ∷ bytes) = record { form = form; records = []; torn = Some offset }

-- records, and a capture behind them
abbrev pub behind : List Record → Capture → Capture
behind rs c = record { form = c.form; records = rs ++ c.records; torn = c.torn }

-- what a capture comes to from an offset on, up to so many records
unfoldable pub capture_within : ℕ → Form → ℕ → List ℕ → Capture
capture_within zero form offset bytes = no_record form offset bytes
capture_within (suc most) form offset bytes =
    let size : ℕ = 16 + captured_in form.order bytes in
    if is_whole form.order offset bytes
    then behind (record_in form.order bytes ∷ []) (capture_within most form (offset + size) (drop size bytes))
    else no_record form offset bytes

-- what a capture comes to from an offset on: there are fewer records than bytes
unfoldable pub capture_from : Form → ℕ → List ℕ → Capture
capture_from form offset bytes = capture_within (length bytes) form offset bytes

-- the capture that bytes are, and none where the header is short or wrong
abbrev pub capture_of : List ℕ → Option Capture
capture_of bytes = option_map (λ form. capture_from form 24 (drop 24 bytes)) (form_of bytes)
