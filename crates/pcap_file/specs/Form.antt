-- The forms of a capture (libpcap file format 2.4): two byte orders, two units of time, and the header
-- that tells them.
use Rattle.std.specs.Prelude.{ℕ, ◌%◌, Bool, ◌&&◌, List, length, drop, nat_eq, nat_le, if◌then◌else◌, Option, Some, None}
use Rattle.byteorder.specs.Endian.{big_number, little_number, big_bytes, little_bytes}
use Rattle.pcap_file.specs.declared.form.Endian.{Endian}
use Rattle.pcap_file.specs.declared.form.Endian.TheVariants.{Big, Little}
use Rattle.pcap_file.specs.declared.form.TimeUnit.{TimeUnit}
use Rattle.pcap_file.specs.declared.form.TimeUnit.TheVariants.{Microseconds, Nanoseconds}
use Rattle.pcap_file.specs.declared.form.Form.{Form}

-- the number of the first 4 bytes
abbrev pub number_in : Endian → List ℕ → ℕ
number_in Big bytes = big_number 4 bytes
number_in Little bytes = little_number 4 bytes

-- the 4 bytes of a number
abbrev pub bytes_in : Endian → ℕ → List ℕ
bytes_in Big n = big_bytes 4 n
bytes_in Little n = little_bytes 4 n

-- the number that says what the fraction of a second counts
abbrev pub magic_number : TimeUnit → ℕ
magic_number Microseconds = 0xa1b2c3d4
magic_number Nanoseconds = 0xa1b23c4d

-- Whether bytes begin with a header of this form. Of its 24 bytes only the magic number and the low 16
-- bits of the link type, 1 for Ethernet, are tested.
abbrev pub is_header : Form → List ℕ → Bool
is_header form bytes =
    nat_le 24 (length bytes)
    && (nat_eq (number_in form.order bytes) (magic_number form.unit)
    && nat_eq (number_in form.order (drop 20 bytes) % 65536) 1)

-- the form in which the header of these bytes reads
abbrev pub form_of : List ℕ → Option Form
form_of bytes =
    let big_micro : Form = record { order = Big; unit = Microseconds } in
    let big_nano : Form = record { order = Big; unit = Nanoseconds } in
    let little_micro : Form = record { order = Little; unit = Microseconds } in
    let little_nano : Form = record { order = Little; unit = Nanoseconds } in
    if is_header big_micro bytes then Some big_micro
    else (if is_header big_nano bytes then Some big_nano
    else (if is_header little_micro bytes then Some little_micro
    else (if is_header little_nano bytes then Some little_nano else None)))
