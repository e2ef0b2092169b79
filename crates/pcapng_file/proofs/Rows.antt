-- The rows, worked out.
use Rattle.std.proofs.Common.{refl}
use Rattle.pcapng_file.specs.Options.{resolution_within, resolution_in}
use Rattle.pcapng_file.specs.Captures.{stream_within, stream_from}
use Rattle.pcapng_file.specs.Written.{ng_header_bytes}
use Rattle.pcapng_file.specs.Rows.{WrittenRows, HeaderRows, SectionRows, OtherRows, TimeRows}

pub written_rows : WrittenRows
unfolding resolution_within resolution_in stream_within stream_from ng_header_bytes
written_rows = record {
  header_alone = refl;
  one_packet = refl;
  one_packet_size = refl;
  cut = refl;
  closing_length = refl;
  short = refl;
  header_cut = refl;
  header_closed_wrong = refl;
  interface_cut = refl;
  some_bytes_behind = refl;
}

pub header_rows : HeaderRows
unfolding resolution_within resolution_in stream_within stream_from ng_header_bytes
header_rows = record {
  version = refl;
  minor = refl;
  total_24 = refl;
  total_29 = refl;
  magic = refl;
  later_version = refl;
}

pub section_rows : SectionRows
unfolding resolution_within resolution_in stream_within stream_from ng_header_bytes
section_rows = record {
  in_halves = refl;
  two_sections = refl;
  back_again = refl;
  counted_anew = refl;
  no_interface = refl;
  next_interface = refl;
  another_link = refl;
}

pub other_rows : OtherRows
unfolding resolution_within resolution_in stream_within stream_from ng_header_bytes
other_rows = record {
  bounded = refl;
  simple_alone = refl;
  stepped_over = refl;
  too_short = refl;
  no_multiple = refl;
  short_interface = refl;
  short_packet = refl;
}

pub time_rows : TimeRows
unfolding resolution_within resolution_in stream_within stream_from ng_header_bytes
time_rows = record {
  micro = refl;
  nano = refl;
  pico = refl;
  seconds = refl;
  quarters = refl;
  whole_seconds = refl;
  least_unit = refl;
  least_binary = refl;
  capped = refl;
  other_option = refl;
  first_counts = refl;
  ended = refl;
  unfit = refl;
  unpadded = refl;
}
