-- Whose packets are whose: a worker has all packets of its ports.
use Rattle.std.specs.Prelude.{◌≡◌, ◌+◌, ◌%◌, ◌==◌, ℕ, List, [], ◌∷◌, length, Some, slice_get, if◌then◌else◌}
use Rattle.nf_base.specs.declared.packet.Packet.{Packet}

-- who has a packet, of so many workers
abbrev pub worker_of : ℕ → Packet → ℕ
worker_of workers packet = packet.id.port % workers

-- the places of a worker's packets, in order, in packets of which the first has this place
abbrev pub places_from : ℕ → ℕ → ℕ → List Packet → List ℕ
places_from workers w place [] = []
places_from workers w place (p ∷ ps) =
    if worker_of workers p == w then place ∷ places_from workers w (place + 1) ps
    else places_from workers w (place + 1) ps

-- the places of a worker's packets, in order
abbrev pub own_places : ℕ → ℕ → List Packet → List ℕ
own_places workers w packets = places_from workers w 0 packets

-- those of each worker's
pub record AreDealt (workers : ℕ) (packets : List Packet) (own : List (List ℕ)) : Type 0 where
  pub many : length own ≡ workers
  pub each : (w : ℕ) (places : List ℕ) → slice_get own w ≡ Some places →
      places ≡ own_places workers w packets
