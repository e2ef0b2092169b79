-- Laws of what captures hold.
use Rattle.std.specs.Prelude.{◌≡◌, ℕ, ◌<◌, Bool, false, List, [], ◌∷◌, take, Some, None}
use Rattle.std.specs.List.{All}
use Rattle.pcap_file.specs.Capture.{Capture, capture_of}
use Rattle.pcapng_file.specs.Heard.{stream_of}
use Rattle.pcapng_file.specs.Captures.{ng_stream_of}
use Rattle.packet_feed.specs.Contents.{contents_of}
use Rattle.packet_feed.specs.Arrivals.{arrival_of}

-- a libpcap capture holds its records
abbrev pub RecordsAreHeld : Type 0
RecordsAreHeld =
    (bytes : List ℕ) (c : Capture) → All (λ b. b < 256) bytes → capture_of bytes ≡ Some c → contents_of bytes ≡ Some (stream_of c)

-- bytes that begin as a pcapng capture does hold the packets of its blocks
abbrev pub BlocksAreHeld : Type 0
BlocksAreHeld =
    (bytes : List ℕ) → take 4 bytes ≡ 0x0a ∷ 0x0d ∷ 0x0d ∷ 0x0a ∷ [] → contents_of bytes ≡ ng_stream_of bytes

-- a packet of another link type than Ethernet is skipped, whatever its bytes
abbrev pub OthersAreSkipped : Type 0
OthersAreSkipped =
    (six : Bool) (port seq time original : ℕ) (frame : List ℕ) → (arrival_of six port seq time false original frame).packet.fields ≡ None
