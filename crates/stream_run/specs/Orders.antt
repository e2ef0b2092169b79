-- Which order a run keeps of the packets that it is given.
use Rattle.std.specs.Prelude.{◌≡◌, ℕ, List, Option}
use Rattle.nf_base.specs.Orders.{KeepsPortOrder}
use Rattle.packet_feed.specs.Arrivals.{Arrival}
use Rattle.packet_feed.specs.Ports.{AreFirstOfPorts}
use Rattle.stream_run.specs.Streaming.{AreFirst}

-- the port at which a packet came in
abbrev pub port_of : Arrival → ℕ
port_of a = a.packet.id.port

-- packets are handled in the order in which they are given, or each port's are
pub data Order : Type 0 where
  AsGiven ByPort : Order

-- these packets, given so, are handled so: each once, and no others
abbrev pub Keeps : Order → List Arrival → List Arrival → Type 0
Keeps AsGiven given handled = handled ≡ given
Keeps ByPort given handled = KeepsPortOrder port_of given handled

-- these may be the first that are handled, of all that captures hold: the first ones in capture order,
-- or the first ones of each port
abbrev pub AreFirstBy : Order → Option (List Arrival) → List Arrival → Type 0
AreFirstBy AsGiven all given = AreFirst all given
AreFirstBy ByPort all given = AreFirstOfPorts all given
