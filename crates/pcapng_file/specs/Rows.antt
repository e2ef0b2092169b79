-- Captures worked out by hand.
use Rattle.std.specs.Prelude.{◌≡◌, ℕ, ◌+◌, ◌-◌, ◌*◌, ◌^◌, true, false, List, [], ◌∷◌, ◌++◌, length, take, drop, replicate, Option, Some, None}
use Rattle.pcap_file.specs.declared.form.Endian.TheVariants.{Big, Little}
use Rattle.pcap_file.specs.Record.{greatest_time}
use Rattle.pcapng_file.specs.Heard.{Heard, Stream}
use Rattle.pcapng_file.specs.Options.{padded, units_of, time_in, resolution_in, resolution_of}
use Rattle.pcapng_file.specs.Captures.{ng_stream_of}
use Rattle.pcapng_file.specs.Written.{ng_header_bytes, block_bytes}

-- a frame of 3 bytes
abbrev pub three : List ℕ
three = 1 ∷ 2 ∷ 3 ∷ []

-- it as it is heard at a time
abbrev pub heard_at : ℕ → Heard
heard_at time = record { time = time; original = 3; frame = three; is_ethernet = true }

-- a capture of it at time 5, as it is written
abbrev pub capture : List ℕ
capture = ng_header_bytes ++ block_bytes 5 3 three

-- the header of a section in big-endian, and one with a longer header: an option of its own
abbrev pub big_header : List ℕ
big_header =
    0x0a ∷ 0x0d ∷ 0x0d ∷ 0x0a ∷ 0 ∷ 0 ∷ 0 ∷ 0x1c ∷ 0x1a ∷ 0x2b ∷ 0x3c ∷ 0x4d ∷ 0 ∷ 1 ∷ 0 ∷ 0
    ∷ 0xff ∷ 0xff ∷ 0xff ∷ 0xff ∷ 0xff ∷ 0xff ∷ 0xff ∷ 0xff ∷ 0 ∷ 0 ∷ 0 ∷ 0x1c ∷ []

-- the interface of an Ethernet in big-endian, of which at most 2 bytes of a frame are captured, with one
-- option of one byte
abbrev pub big_interface : ℕ → ℕ → List ℕ
big_interface code byte =
    0 ∷ 0 ∷ 0 ∷ 1 ∷ 0 ∷ 0 ∷ 0 ∷ 0x20 ∷ 0 ∷ 1 ∷ 0 ∷ 0 ∷ 0 ∷ 0 ∷ 0 ∷ 2
    ∷ 0 ∷ code ∷ 0 ∷ 1 ∷ byte ∷ 0 ∷ 0 ∷ 0 ∷ 0 ∷ 0 ∷ 0 ∷ 0 ∷ 0 ∷ 0 ∷ 0 ∷ 0x20 ∷ []

-- a type 6 block in big-endian of an interface, at a time, of the frame
abbrev pub big_packet : ℕ → ℕ → List ℕ
big_packet interface time =
    0 ∷ 0 ∷ 0 ∷ 6 ∷ 0 ∷ 0 ∷ 0 ∷ 0x24 ∷ 0 ∷ 0 ∷ 0 ∷ interface ∷ 0 ∷ 0 ∷ 0 ∷ 0 ∷ 0 ∷ 0 ∷ 0 ∷ time
    ∷ 0 ∷ 0 ∷ 0 ∷ 3 ∷ 0 ∷ 0 ∷ 0 ∷ 3 ∷ 1 ∷ 2 ∷ 3 ∷ 0 ∷ 0 ∷ 0 ∷ 0 ∷ 0x24 ∷ []

-- a section in big-endian with one interface of 2^-1 seconds, and a packet of it at 3 halves
abbrev pub halves : List ℕ
halves = big_header ++ (big_interface 9 0x81 ++ big_packet 0 3)

-- a type 3 block in big-endian of a frame of 3 bytes, of which 2 were captured
abbrev pub simple : List ℕ
simple = 0 ∷ 0 ∷ 0 ∷ 3 ∷ 0 ∷ 0 ∷ 0 ∷ 0x14 ∷ 0 ∷ 0 ∷ 0 ∷ 3 ∷ 1 ∷ 2 ∷ 0 ∷ 0 ∷ 0 ∷ 0 ∷ 0 ∷ 0x14 ∷ []

-- an old packet block, of type 2, and a block of an unknown type, both in big-endian
abbrev pub others : List ℕ
others =
    0 ∷ 0 ∷ 0 ∷ 2 ∷ 0 ∷ 0 ∷ 0 ∷ 0x10 ∷ 1 ∷ 2 ∷ 3 ∷ 4 ∷ 0 ∷ 0 ∷ 0 ∷ 0x10
    ∷ 0x40 ∷ 0 ∷ 0x0b ∷ 0xad ∷ 0 ∷ 0 ∷ 0 ∷ 0x0c ∷ 0 ∷ 0 ∷ 0 ∷ 0x0c ∷ []

-- an interface in little-endian of link type 113, with no bound and no options: microseconds
abbrev pub cooked : List ℕ
cooked = 1 ∷ 0 ∷ 0 ∷ 0 ∷ 0x14 ∷ 0 ∷ 0 ∷ 0 ∷ 113 ∷ 0 ∷ 0 ∷ 0 ∷ 0 ∷ 0 ∷ 0 ∷ 0 ∷ 0x14 ∷ 0 ∷ 0 ∷ 0 ∷ []

-- a type 6 block of interface 1, in little-endian, with an option behind its data
abbrev pub second : List ℕ
second =
    6 ∷ 0 ∷ 0 ∷ 0 ∷ 0x2c ∷ 0 ∷ 0 ∷ 0 ∷ 1 ∷ 0 ∷ 0 ∷ 0 ∷ 1 ∷ 0 ∷ 0 ∷ 0 ∷ 7 ∷ 0 ∷ 0 ∷ 0
    ∷ 2 ∷ 0 ∷ 0 ∷ 0 ∷ 9 ∷ 0 ∷ 0 ∷ 0 ∷ 8 ∷ 8 ∷ 0 ∷ 0 ∷ 1 ∷ 0 ∷ 3 ∷ 0 ∷ 97 ∷ 98 ∷ 99 ∷ 0 ∷ 0x2c ∷ 0 ∷ 0 ∷ 0 ∷ []

-- a stream with these packets that ends, or is torn
abbrev pub stream : List Heard → Option ℕ → Option Stream
stream hs torn = Some (record { heard = hs; torn = torn })

-- What is written, and where it is cut.
pub record WrittenRows : Type 0 where
  pub header_alone : ng_stream_of ng_header_bytes ≡ stream [] None
  pub one_packet : ng_stream_of capture ≡ stream (heard_at 5 ∷ []) None
  pub one_packet_size : length capture ≡ 96
  pub cut : ng_stream_of (take 95 capture) ≡ stream [] (Some 60)
  pub closing_length : ng_stream_of (take 95 capture ++ 1 ∷ []) ≡ stream [] (Some 60)
  pub short : ng_stream_of (take 23 capture) ≡ None
  pub header_cut : ng_stream_of (take 24 capture) ≡ stream [] (Some 0)
  pub header_closed_wrong : ng_stream_of (take 27 capture ++ 1 ∷ []) ≡ stream [] (Some 0)
  pub interface_cut : ng_stream_of (take 59 capture) ≡ stream [] (Some 28)
  pub some_bytes_behind : ng_stream_of (capture ++ 6 ∷ []) ≡ stream (heard_at 5 ∷ []) (Some 96)

-- Headers that are none: of another version, too short, of no multiple of 4, without a magic number.
pub record HeaderRows : Type 0 where
  pub version : ng_stream_of (take 12 capture ++ (2 ∷ 0 ∷ drop 14 capture)) ≡ None
  pub minor : ng_stream_of (take 14 capture ++ (7 ∷ 7 ∷ drop 16 capture)) ≡ stream (heard_at 5 ∷ []) None
  pub total_24 : ng_stream_of (take 4 capture ++ (24 ∷ drop 5 capture)) ≡ None
  pub total_29 : ng_stream_of (take 4 capture ++ (29 ∷ drop 5 capture)) ≡ None
  pub magic : ng_stream_of (take 8 capture ++ (0 ∷ drop 9 capture)) ≡ None
  pub later_version : ng_stream_of (capture ++ (take 12 capture ++ (2 ∷ 0 ∷ drop 14 capture))) ≡ stream (heard_at 5 ∷ []) (Some 96)

-- Big-endian, sections one after the other, and interfaces, which every section counts anew.
pub record SectionRows : Type 0 where
  pub in_halves : ng_stream_of halves ≡ stream (heard_at 1500000000 ∷ []) None
  pub two_sections : ng_stream_of (capture ++ halves) ≡ stream (heard_at 5 ∷ heard_at 1500000000 ∷ []) None
  pub back_again : ng_stream_of (halves ++ capture) ≡ stream (heard_at 1500000000 ∷ heard_at 5 ∷ []) None
  pub counted_anew : ng_stream_of (halves ++ (big_header ++ big_packet 0 3)) ≡ stream (heard_at 1500000000 ∷ []) (Some 124)
  pub no_interface : ng_stream_of (big_header ++ big_packet 0 3) ≡ stream [] (Some 28)
  pub next_interface : ng_stream_of (big_header ++ (big_interface 9 9 ++ big_packet 1 3)) ≡ stream [] (Some 60)
  pub another_link : ng_stream_of (capture ++ (cooked ++ second))
      ≡ stream (heard_at 5 ∷ record { time = (2 ^ 32 + 7) * 1000; original = 9; frame = 8 ∷ 8 ∷ []; is_ethernet = false } ∷ []) None

-- Type 3, and blocks that are stepped over.
pub record OtherRows : Type 0 where
  pub bounded : ng_stream_of (take 60 halves ++ simple)
      ≡ stream (record { time = 0; original = 3; frame = 1 ∷ 2 ∷ []; is_ethernet = true } ∷ []) None
  pub simple_alone : ng_stream_of (big_header ++ simple) ≡ stream [] (Some 28)
  pub stepped_over : ng_stream_of (big_header ++ (others ++ (big_interface 9 9 ++ (others ++ big_packet 0 3)))) ≡ stream (heard_at 3 ∷ []) None
  pub too_short : ng_stream_of (big_header ++ (0 ∷ 0 ∷ 0 ∷ 7 ∷ 0 ∷ 0 ∷ 0 ∷ 8 ∷ 0 ∷ 0 ∷ 0 ∷ 8 ∷ [])) ≡ stream [] (Some 28)
  pub no_multiple : ng_stream_of (big_header ++ (0 ∷ 0 ∷ 0 ∷ 7 ∷ 0 ∷ 0 ∷ 0 ∷ 13 ∷ 0 ∷ 0 ∷ 0 ∷ 0 ∷ 13 ∷ [])) ≡ stream [] (Some 28)
  pub short_interface : ng_stream_of (big_header ++ (0 ∷ 0 ∷ 0 ∷ 1 ∷ 0 ∷ 0 ∷ 0 ∷ 16 ∷ 0 ∷ 1 ∷ 0 ∷ 0 ∷ 0 ∷ 0 ∷ 0 ∷ 16 ∷ [])) ≡ stream [] (Some 28)
  pub short_packet : ng_stream_of (take 60 halves ++ (0 ∷ 0 ∷ 0 ∷ 6 ∷ 0 ∷ 0 ∷ 0 ∷ 0x20 ∷ (take 20 (drop 8 (big_packet 0 3)) ++ (0 ∷ 0 ∷ 0 ∷ 0x20 ∷ []))))
      ≡ stream [] (Some 60)

-- Units and options.
pub record TimeRows : Type 0 where
  pub micro : time_in (units_of (resolution_of None)) 7 ≡ 7000
  pub nano : time_in (units_of 9) 7 ≡ 7
  pub pico : time_in (units_of 12) 7999 ≡ 7
  pub seconds : time_in (units_of 0) 7 ≡ 7000000000
  pub quarters : time_in (units_of 130) 3 ≡ 750000000
  pub whole_seconds : time_in (units_of 128) 3 ≡ 3000000000
  pub least_unit : time_in (units_of 127) (2 ^ 64 - 1) ≡ 0
  pub least_binary : time_in (units_of 255) (2 ^ 64 - 1) ≡ 0
  pub capped : time_in (units_of 6) (2 ^ 64 - 1) ≡ 4294967295999999999
  pub other_option : ng_stream_of (big_header ++ (big_interface 14 9 ++ big_packet 0 3)) ≡ stream (heard_at 3000 ∷ []) None
  pub first_counts : resolution_in Little (9 ∷ 0 ∷ 2 ∷ 0 ∷ 1 ∷ 1 ∷ 0 ∷ 0 ∷ 9 ∷ 0 ∷ 1 ∷ 0 ∷ 6 ∷ 0 ∷ 0 ∷ 0 ∷ 9 ∷ 0 ∷ 1 ∷ 0 ∷ 3 ∷ 0 ∷ 0 ∷ 0 ∷ []) ≡ Some 6
  pub ended : resolution_in Little (0 ∷ 0 ∷ 0 ∷ 0 ∷ 9 ∷ 0 ∷ 1 ∷ 0 ∷ 6 ∷ 0 ∷ 0 ∷ 0 ∷ []) ≡ None
  pub unfit : resolution_in Little (2 ∷ 0 ∷ 9 ∷ 0 ∷ 9 ∷ 0 ∷ 1 ∷ 0 ∷ 6 ∷ 0 ∷ 0 ∷ 0 ∷ []) ≡ None
  pub unpadded : resolution_in Big (0 ∷ 1 ∷ 0 ∷ 0 ∷ 0 ∷ 9 ∷ 0 ∷ 1 ∷ 7 ∷ []) ≡ Some 7
