-- Packets in capture order: least time first, ties by port, then in the order of the file.
use Rattle.std.specs.Prelude.{List, [], ◌∷◌, map, if◌then◌else◌}
use Rattle.std.specs.List.Sorted.{IsPermutation}
use Rattle.nf_base.specs.Orders.{comes_before, IsCaptureOrder}
use Rattle.packet_feed.specs.Arrivals.{Arrival, packet_of}

-- a packet put into packets in order: before the first that it comes before
abbrev pub put_in : Arrival → List Arrival → List Arrival
put_in a [] = a ∷ []
put_in a (b ∷ bs) = if comes_before a.packet b.packet then a ∷ (b ∷ bs) else b ∷ put_in a bs

-- packets in capture order
abbrev pub in_order : List Arrival → List Arrival
in_order [] = []
in_order (a ∷ rest) = put_in a (in_order rest)

-- the same packets, each once, in capture order
pub record IsOrdered (arrivals ordered : List Arrival) : Type 0 where
  pub each_once : IsPermutation arrivals ordered
  pub in_order : IsCaptureOrder (map packet_of arrivals) (map packet_of ordered)
