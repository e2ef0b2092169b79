-- What is heard from a capture of either kind: its packets in file order, and where it is torn.
use Rattle.std.specs.Prelude.{ℕ, Bool, true, List, ◌++◌, length, map, Option}
use Rattle.pcap_file.specs.declared.form.TimeUnit.{TimeUnit}
use Rattle.pcap_file.specs.declared.head.Head.{Head}
use Rattle.pcap_file.specs.Record.{Record, time_of}
use Rattle.pcap_file.specs.Capture.{Capture}

-- one packet: its time in nanoseconds, its length on the wire, its captured bytes, and whether they are
-- an Ethernet frame
pub record Heard : Type 0 where
  pub time : ℕ
  pub original : ℕ
  pub frame : List ℕ
  pub is_ethernet : Bool

-- the packets of a capture, and the offset of the block or record in which it is torn
pub record Stream : Type 0 where
  pub heard : List Heard
  pub torn : Option ℕ

-- packets, and a stream behind them
abbrev pub behind : List Heard → Stream → Stream
behind hs s = record { heard = hs ++ s.heard; torn = s.torn }

-- what is told of a packet beside its frame
abbrev pub head_of : Heard → Head
head_of h = record { time = h.time; captured = length h.frame; original = h.original }

-- a record of a libpcap capture
abbrev pub heard_in : TimeUnit → Record → Heard
heard_in unit r = record { time = time_of unit r; original = r.original; frame = r.frame; is_ethernet = true }

-- a libpcap capture as a stream
abbrev pub stream_of : Capture → Stream
stream_of c = record { heard = map (heard_in c.form.unit) c.records; torn = c.torn }
