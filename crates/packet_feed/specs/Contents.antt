-- What a capture holds, whatever its format.
use Rattle.std.specs.Prelude.{ℕ, List, Option, option_map, if◌then◌else◌}
use Rattle.pcap_file.specs.Capture.{capture_of}
use Rattle.pcapng_file.specs.Heard.{Stream as Contents, stream_of}
use Rattle.pcapng_file.specs.Blocks.{is_section}
use Rattle.pcapng_file.specs.Captures.{ng_stream_of}

-- What the capture holds that bytes are, and none where its header is short or wrong: its packets in file
-- order, and the offset of the record or block in which it is torn. Its first four bytes tell whether it
-- is one in pcapng.
abbrev pub contents_of : List ℕ → Option Contents
contents_of bytes = if is_section bytes then ng_stream_of bytes else option_map stream_of (capture_of bytes)
