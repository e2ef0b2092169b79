-- Laws of the orders of packets.
use Rattle.std.specs.Prelude.{◌≡◌, ◌≢◌, Bool, List, [], ◌∷◌, length, filter}
use Rattle.packet_feed.specs.Arrivals.{Arrival}
use Rattle.stream_run.specs.Orders.{Order, ByPort, Keeps}

-- whichever order is kept, as many packets pass any test as did before: each stands there, once,
-- and no other
abbrev pub EachStandsOnce : Type 0
EachStandsOnce = (order : Order) (given handled : List Arrival) (test : Arrival → Bool) →
    Keeps order given handled → length (filter test handled) ≡ length (filter test given)

-- of two packets of different ports the second may come first
abbrev pub OthersGoBetween : Type 0
OthersGoBetween = (a b : Arrival) → a.packet.id.port ≢ b.packet.id.port →
    Keeps ByPort (a ∷ b ∷ []) (b ∷ a ∷ [])

-- of two packets of one port it may not
abbrev pub NoneGoesBefore : Type 0
NoneGoesBefore = (a b : Arrival) → a.packet.id.port ≡ b.packet.id.port →
    Keeps ByPort (a ∷ b ∷ []) (b ∷ a ∷ []) → a ≡ b
