-- One capture that is read as a stream.
use Rattle.std.proofs.Common.{◌≡◌, ℕ, ◌+◌, ◌≤◌, max, Bool, List, [], ◌∷◌, Option, Some, None, refl, arith}
use Rattle.std.specs.List.{AllByRecursion}
use Rattle.std.specs.Option.{option_map}
use Rattle.nf_base.specs.declared.packet.Packet.{Packet}
use Rattle.packet_feed.specs.declared.ahead.Ahead.{Ahead}
use Rattle.packet_feed.specs.declared.ahead.Ahead.TheVariants.{Unread, Held, Ended, Torn}
use Rattle.pcapng_file.specs.Heard.{Heard, Stream as Contents}
use Rattle.packet_feed.specs.Captures.{left_of}
use Rattle.packet_feed.specs.Arrivals.{Arrival, arrival_of, arrivals_from}
use Rattle.packet_feed.specs.Streams.{Stream, unread, last_read, to_give, packets_left, tear_left, IsSettled, time_in}
use Rattle.packet_feed.specs.Sources.{given_away}
use Rattle.packet_feed.proofs.Ordering.{IsEarly, IsBehind, early_before}
use Rattle.packet_feed.proofs.Gathering.{AllIn, IsHeadOf}

-- ---- what an arrival is

pub came_at : (six : Bool) (port seq time : ℕ) (is_ethernet : Bool) (original : ℕ) (frame : List ℕ) → (arrival_of six port seq time is_ethernet original frame).packet.time ≡ time
unfolding arrival_of
came_at six port seq time is_ethernet original frame = refl

pub came_in : (six : Bool) (port seq time : ℕ) (is_ethernet : Bool) (original : ℕ) (frame : List ℕ) → (arrival_of six port seq time is_ethernet original frame).packet.id.port ≡ port
unfolding arrival_of
came_in six port seq time is_ethernet original frame = refl

pub came_as : (six : Bool) (port seq time : ℕ) (is_ethernet : Bool) (original : ℕ) (frame : List ℕ) → (arrival_of six port seq time is_ethernet original frame).packet.id.seq ≡ seq
unfolding arrival_of
came_as six port seq time is_ethernet original frame = refl

pub came_with : (six : Bool) (port seq time : ℕ) (is_ethernet : Bool) (original : ℕ) (frame : List ℕ) → (arrival_of six port seq time is_ethernet original frame).frame ≡ frame
unfolding arrival_of
came_with six port seq time is_ethernet original frame = refl

-- ---- all later packets of a capture come behind what comes before the next

one_behind : (a : Arrival) (six : Bool) (port seq time : ℕ) (is_ethernet : Bool) (original : ℕ) (frame : List ℕ) → IsEarly a.packet time port seq → IsBehind a (arrival_of six port seq time is_ethernet original frame)
one_behind a six port seq time is_ethernet original frame early =
    let b = arrival_of six port seq time is_ethernet original frame in
    let t = came_at six port seq time is_ethernet original frame in
    let p = came_in six port seq time is_ethernet original frame in
    let n = came_as six port seq time is_ethernet original frame in
    early_before a.packet b.packet (record {
      time_le = omega (arith, early.time_le, t);
      port_le = λ le. let down : time ≤ a.packet.time = omega arith in let q = early.port_le down in omega arith;
      seq_lt = λ le lo. let down : time ≤ a.packet.time = omega arith in let low : port ≤ a.packet.id.port = omega arith in let q = early.seq_lt down low in omega arith;
    })

later_early : (a : Packet) (time port seq more : ℕ) → IsEarly a time port seq → IsEarly a (max time more) port (seq + 1)
later_early a time port seq more early = record {
  time_le = omega (arith, early.time_le);
  port_le = λ le. let down : time ≤ a.time = omega arith in early.port_le down;
  seq_lt = λ le lo. let down : time ≤ a.time = omega arith in let q = early.seq_lt down lo in omega arith;
}

next_early : (a : Packet) (time port seq more : ℕ) → IsEarly a time port seq → IsEarly a (max time more) port seq
next_early a time port seq more early = record {
  time_le = omega (arith, early.time_le);
  port_le = λ le. let down : time ≤ a.time = omega arith in early.port_le down;
  seq_lt = λ le lo. let down : time ≤ a.time = omega arith in early.seq_lt down lo;
}

pub all_behind : (a : Arrival) (six : Bool) (port seq latest : ℕ) (ps : List Heard) → IsEarly a.packet latest port seq → AllByRecursion (IsBehind a) (arrivals_from six port seq latest ps)
all_behind a six port seq latest [] early = tt
all_behind a six port seq latest (p ∷ ps) early =
    let time = max latest p.time in (
      one_behind a six port seq time p.is_ethernet p.original p.frame (next_early a.packet latest port seq p.time early),
      all_behind a six port (seq + 1) time ps (later_early a.packet latest port seq p.time early),
    )

-- the packets of another capture of which it is known what comes next
other_held : (a : Arrival) (port : ℕ) (s : Stream) (o : Option Contents) → IsEarly a.packet s.latest port s.seq → AllIn (IsBehind a) (option_map (to_give Held port s) o)
other_held a port s None early = tt
other_held a port s (Some c) early =
    let later : IsEarly a.packet s.latest port (s.seq + 1) = record { time_le = early.time_le; port_le = early.port_le; seq_lt = λ le lo. let q = early.seq_lt le lo in omega arith } in
    (one_behind a s.six port s.seq s.latest s.is_ethernet s.original s.frame early, all_behind a s.six port (s.seq + 1) s.latest c.heard later)

other_ahead : (ahead : Ahead) (a : Arrival) (port : ℕ) (s : Stream) (rest : Option (List ℕ)) → IsSettled ahead → (time_in ahead s.latest ≡ Some s.latest → IsEarly a.packet s.latest port s.seq)
    → AllIn (IsBehind a) (option_map (to_give ahead port s) (unread ahead s.reading rest))
other_ahead Unread a port s rest settled early = absurd settled
other_ahead Held a port s rest settled early = other_held a port s (left_of s.reading.captured rest) (early refl)
other_ahead Ended a port s rest settled early = tt
other_ahead (Torn offset) a port s rest settled early = tt

pub other_behind : (a : Arrival) (port : ℕ) (s : Stream) (rest : Option (List ℕ)) → IsSettled s.ahead → (time_in s.ahead s.latest ≡ Some s.latest → IsEarly a.packet s.latest port s.seq) → AllIn (IsBehind a) (packets_left port s rest)
other_behind a port s rest settled early = other_ahead s.ahead a port s rest settled early

-- ---- the packet that was read ahead is given

head_told : (port : ℕ) (s : Stream) (o : Option Contents) → IsHeadOf (IsBehind (last_read port s)) (last_read port s) (option_map (to_give Held port s) o) (option_map (to_give Unread port (given_away s)) o)
head_told port s None = tt
head_told port s (Some c) =
    let t = came_at s.six port s.seq s.latest s.is_ethernet s.original s.frame in
    let p = came_in s.six port s.seq s.latest s.is_ethernet s.original s.frame in
    let n = came_as s.six port s.seq s.latest s.is_ethernet s.original s.frame in
    (refl, all_behind (last_read port s) s.six port (s.seq + 1) s.latest c.heard (record { time_le = omega arith; port_le = λ le. omega arith; seq_lt = λ le lo. omega arith }))

head_ahead : (ahead : Ahead) (port : ℕ) (s : Stream) (rest : Option (List ℕ)) → ahead ≡ Held
    → IsHeadOf (IsBehind (last_read port s)) (last_read port s) (option_map (to_give ahead port s) (unread ahead s.reading rest)) (packets_left port (given_away s) rest)
head_ahead Held port s rest e = head_told port s (left_of s.reading.captured rest)
head_ahead Unread port s rest e = absurd cc
head_ahead Ended port s rest e = absurd cc
head_ahead (Torn offset) port s rest e = absurd cc

pub head_given : (port : ℕ) (s : Stream) (rest : Option (List ℕ)) → s.ahead ≡ Held → IsHeadOf (IsBehind (last_read port s)) (last_read port s) (packets_left port s rest) (packets_left port (given_away s) rest)
head_given port s rest e = head_ahead s.ahead port s rest e

tear_ahead : (ahead : Ahead) (s : Stream) (rest : Option (List ℕ)) → ahead ≡ Held → option_map (λ (c : Contents). c.torn) (unread ahead s.reading rest) ≡ tear_left (given_away s) rest
tear_ahead Held s rest e = refl
tear_ahead Unread s rest e = absurd cc
tear_ahead Ended s rest e = absurd cc
tear_ahead (Torn offset) s rest e = absurd cc

pub tear_given : (s : Stream) (rest : Option (List ℕ)) → s.ahead ≡ Held → tear_left s rest ≡ tear_left (given_away s) rest
tear_given s rest e = tear_ahead s.ahead s rest e

pub held_since : (ahead : Ahead) (latest time : ℕ) → time_in ahead latest ≡ Some time → (ahead ≡ Held) × (latest ≡ time)
held_since Unread latest time e = absurd cc
held_since Held latest time e = (refl, cc)
held_since Ended latest time e = absurd cc
held_since (Torn offset) latest time e = absurd cc

-- nothing is left of a capture of which no record was read ahead
none_ahead : (ahead : Ahead) (port : ℕ) (s : Stream) (rest : Option (List ℕ)) → IsSettled ahead → time_in ahead s.latest ≡ None → option_map (to_give ahead port s) (unread ahead s.reading rest) ≡ Some []
none_ahead Unread port s rest settled e = absurd settled
none_ahead Held port s rest settled e = absurd cc
none_ahead Ended port s rest settled e = refl
none_ahead (Torn offset) port s rest settled e = refl

pub none_given : (port : ℕ) (s : Stream) (rest : Option (List ℕ)) → IsSettled s.ahead → time_in s.ahead s.latest ≡ None → packets_left port s rest ≡ Some []
none_given port s rest settled e = none_ahead s.ahead port s rest settled e
