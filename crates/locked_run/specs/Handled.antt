-- Packets with their frames, in the order in which they were handled.
use Rattle.std.specs.Prelude.{ℕ, List, [], ◌∷◌, slice_get, Option, Some, None}
use Rattle.packet_feed.specs.Arrivals.{Arrival}
use Rattle.lock_core.specs.declared.call.Ordered.{Ordered}
use Rattle.stream_run.specs.Runs.{Handled}

-- a packet that stands at its place, in front of others
abbrev pub in_front : Option Arrival → Ordered → List Handled → List Handled
in_front None x hs = hs
in_front (Some a) x hs = record { arrival = a; worker = x.seat; done = x.done } ∷ hs

-- the packets of an order, with what stands at their places
abbrev pub joined : List Arrival → List Ordered → List ℕ → List Handled
joined batch [] places = []
joined batch (x ∷ xs) [] = []
joined batch (x ∷ xs) (place ∷ places) = in_front (slice_get batch place) x (joined batch xs places)
