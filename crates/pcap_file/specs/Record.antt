-- One record of a capture (libpcap file format 2.4): its numbers, its time, and the bytes that spell it.
use Rattle.std.specs.Prelude.{ℕ, ◌+◌, ◌*◌, ◌/◌, ◌%◌, ◌^◌, ◌<◌, ◌≤◌, min, List, ◌++◌, length}
use Rattle.pcap_file.specs.declared.form.Endian.{Endian}
use Rattle.pcap_file.specs.declared.form.TimeUnit.{TimeUnit}
use Rattle.pcap_file.specs.declared.form.TimeUnit.TheVariants.{Microseconds, Nanoseconds}
use Rattle.pcap_file.specs.declared.head.Head.{Head}
use Rattle.pcap_file.specs.Form.{bytes_in}

-- a record: seconds, the fraction of a second, the frame's original length, its captured bytes
pub record Record : Type 0 where
  pub seconds : ℕ
  pub fraction : ℕ
  pub original : ℕ
  pub frame : List ℕ

-- The four numbers have 4 bytes each, and a frame has at most 262,144 captured bytes.
pub record Fits (r : Record) : Type 0 where
  pub seconds_fit : r.seconds < 2 ^ 32
  pub fraction_fits : r.fraction < 2 ^ 32
  pub original_fits : r.original < 2 ^ 32
  pub frame_fits : length r.frame ≤ 262144

-- seconds, fraction, captured length, original length, and the captured bytes
abbrev pub record_bytes : Endian → Record → List ℕ
record_bytes order r =
    bytes_in order r.seconds ++ (bytes_in order r.fraction ++ (bytes_in order (length r.frame) ++ (bytes_in order r.original ++ r.frame)))

-- the last nanosecond of the last second that a record can hold
abbrev pub greatest_time : ℕ
greatest_time = 4294967295999999999

-- how many nanoseconds so many of a unit are
abbrev pub nanoseconds : TimeUnit → ℕ → ℕ
nanoseconds Microseconds n = n * 1000
nanoseconds Nanoseconds n = n

-- A fraction of a second or more is added all the same.
abbrev pub time_of : TimeUnit → Record → ℕ
time_of unit r = min (r.seconds * 1000000000 + nanoseconds unit r.fraction) greatest_time

-- what is told of a record beside its frame
abbrev pub head_of : TimeUnit → Record → Head
head_of unit r = record { time = time_of unit r; captured = length r.frame; original = r.original }

-- the record in nanoseconds of a frame that came at a time
abbrev pub record_at : ℕ → ℕ → List ℕ → Record
record_at time original frame = record { seconds = time / 1000000000; fraction = time % 1000000000; original = original; frame = frame }
