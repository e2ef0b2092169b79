-- A capture that is read as a stream: what was given of it, what was read ahead, and what is left.
use Rattle.std.specs.Prelude.{ℕ, ◌+◌, ◌-◌, ◌≤◌, max, Bool, true, false, List, [], ◌∷◌, Option, Some, None, option_map}
use Rattle.nf_base.specs.declared.packet.Packet.{Packet}
use Rattle.pcap_file.specs.declared.head.Head.{Head}
use Rattle.packet_feed.specs.declared.ahead.Ahead.{Ahead}
use Rattle.packet_feed.specs.declared.ahead.Ahead.TheVariants.{Unread, Held, Ended, Torn}
use Rattle.packet_feed.specs.declared.captured.Captured.{Captured}
use Rattle.pcapng_file.specs.Heard.{Stream as Contents}
use Rattle.packet_feed.specs.Captures.{left_of}
use Rattle.packet_feed.specs.Arrivals.{Arrival, arrival_of, arrivals_from}

-- a capture that is read, and its file
pub record Reading : Type 0 where
  pub file : ℕ
  pub captured : Captured

-- a capture that is read, whether its port has a handler for IPv6, what was read ahead, how many packets
-- were given, the latest time of the packets that were read, and of the last one whether it is an
-- Ethernet frame, its original length and its captured bytes
pub record Stream : Type 0 where
  pub reading : Reading
  pub six : Bool
  pub ahead : Ahead
  pub seq : ℕ
  pub latest : ℕ
  pub is_ethernet : Bool
  pub original : ℕ
  pub frame : List ℕ

-- what a capture holds behind its last packet, where it is torn so
abbrev pub none_left : Option ℕ → Contents
none_left torn = record { heard = []; torn = torn }

-- what a capture holds behind what was read of it, where the rest of its file is told
abbrev pub unread : Ahead → Reading → Option (List ℕ) → Option Contents
unread Unread r rest = left_of r.captured rest
unread Held r rest = left_of r.captured rest
unread Ended r rest = Some (none_left None)
unread (Torn offset) r rest = Some (none_left (Some offset))

-- the packet that was read last, had it come in at a port
abbrev pub last_read : ℕ → Stream → Arrival
last_read port s = arrival_of s.six port s.seq s.latest s.is_ethernet s.original s.frame

-- the packet that was given last, had it come in at a port, while nothing was read behind it
abbrev pub last_given : ℕ → Stream → Packet
last_given port s = (arrival_of s.six port (s.seq - 1) s.latest s.is_ethernet s.original s.frame).packet

-- a stream of which one more packet was read, whose captured bytes it holds
abbrev pub held : Bool → Head → Stream → Stream
held is_ethernet head s =
    record s { ahead = Held; latest = max s.latest head.time; is_ethernet = is_ethernet; original = head.original }

-- the packets that are still to be given, where a capture is still to be read
abbrev pub to_give : Ahead → ℕ → Stream → Contents → List Arrival
to_give Held port s c = last_read port s ∷ arrivals_from s.six port (s.seq + 1) s.latest c.heard
to_give Unread port s c = arrivals_from s.six port s.seq s.latest c.heard
to_give Ended port s c = arrivals_from s.six port s.seq s.latest c.heard
to_give (Torn offset) port s c = arrivals_from s.six port s.seq s.latest c.heard

-- the same, where the rest of the file is told
abbrev pub packets_left : ℕ → Stream → Option (List ℕ) → Option (List Arrival)
packets_left port s rest = option_map (to_give s.ahead port s) (unread s.ahead s.reading rest)

-- where the capture is torn behind what was read of it
abbrev pub tear_left : Stream → Option (List ℕ) → Option (Option ℕ)
tear_left s rest = option_map (λ c. c.torn) (unread s.ahead s.reading rest)

-- It is known what comes next.
abbrev pub IsSettled : Ahead → Type 0
IsSettled Unread = ⊥
IsSettled Held = Unit {0}
IsSettled Ended = Unit {0}
IsSettled (Torn offset) = Unit {0}

-- where a capture was found to be torn
abbrev pub tear_in : Ahead → Option ℕ
tear_in Unread = None
tear_in Held = None
tear_in Ended = None
tear_in (Torn offset) = Some offset

-- the time of the record that was read ahead, if one was
abbrev pub time_in : Ahead → ℕ → Option ℕ
time_in Unread latest = None
time_in Held latest = Some latest
time_in Ended latest = None
time_in (Torn offset) latest = None

-- whether a record was read ahead
abbrev pub is_held : Ahead → Bool
is_held Unread = false
is_held Held = true
is_held Ended = false
is_held (Torn offset) = false

-- What a capture still gives doesn't come before a time: so it is of the latest record that was read,
-- unless no more are read.
abbrev pub IsFrom : ℕ → Ahead → ℕ → Type 0
IsFrom time Unread latest = time ≤ latest
IsFrom time Held latest = time ≤ latest
IsFrom time Ended latest = Unit {0}
IsFrom time (Torn offset) latest = Unit {0}
