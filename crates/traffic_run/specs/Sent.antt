-- How many packets outputs hold, by their length.
use Rattle.std.specs.Prelude.{ℕ, ◌-◌, ◌*◌, ◌/◌}
use Rattle.capture_format.specs.declared.format.CaptureFormat.{CaptureFormat}
use Rattle.capture_format.specs.Written.{head_length, packet_length}

-- the length of a packet with a frame of 42 bytes
abbrev pub length_of_42 : CaptureFormat → ℕ
length_of_42 format = packet_length format 42

-- Each output begins with so many bytes, and each packet has as many.
abbrev pub records_in : CaptureFormat → ℕ → ℕ → ℕ
records_in format bytes outputs = (bytes - head_length format * outputs) / length_of_42 format
