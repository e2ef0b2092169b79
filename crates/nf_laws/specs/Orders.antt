-- What the orders of packets mean.
use Rattle.std.specs.Prelude.{◌≡◌, ◌<◌, ◌≤◌, ◌↔◌, ℕ, true, false, List, length, Contains, slice_index_or, filter}
use Rattle.std.specs.List.Sorted.{IsSortedBy}
use Rattle.nf_base.specs.declared.packet.Packet.{Packet}
use Rattle.nf_base.specs.Orders.{comes_before, IsCaptureOrder, port_of, came_at, KeepsPortOrder}

-- a packet comes before another: it is earlier; or at one time its port is less; or there its
-- number is
pub data ComesBefore (a b : Packet) : Type 0 where
  by_time : a.time < b.time → ComesBefore a b
  by_port : a.time ≡ b.time → a.id.port < b.id.port → ComesBefore a b
  by_number : a.time ≡ b.time → a.id.port ≡ b.id.port → a.id.seq < b.id.seq → ComesBefore a b

-- exactly so packets come before one another
abbrev pub PacketsComeInOrder : Type 0
PacketsComeInOrder = (a b : Packet) → (comes_before a b ≡ true) ↔ ComesBefore a b

-- in capture order no packet comes before one that stands earlier, however far
abbrev pub NoneComesLate : Type 0
NoneComesLate = (packets ordered : List Packet) (i j : ℕ) (d : Packet) →
    IsCaptureOrder packets ordered → i ≤ j → j < length ordered →
    comes_before (slice_index_or ordered j d) (slice_index_or ordered i d) ≡ false

-- exactly the packets that there are stand in it
abbrev pub EachPacketIsOrdered : Type 0
EachPacketIsOrdered = (packets ordered : List Packet) (packet : Packet) →
    IsCaptureOrder packets ordered → Contains packets packet ↔ Contains ordered packet

-- where each port keeps its order, no packet is left out, and none is added
abbrev pub NoPacketIsLost : Type 0
NoPacketIsLost = (ordered listed : List Packet) (packet : Packet) →
    KeepsPortOrder port_of ordered listed → Contains ordered packet ↔ Contains listed packet

-- and at each port, whichever it is, the packets stand in capture order
abbrev pub PortsRise : Type 0
PortsRise = (packets ordered listed : List Packet) (port : ℕ) →
    IsCaptureOrder packets ordered → KeepsPortOrder port_of ordered listed →
    IsSortedBy comes_before (filter (came_at port_of port) listed)
