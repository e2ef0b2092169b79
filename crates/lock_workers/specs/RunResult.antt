-- What all workers come to: an order of the packets.
use Rattle.std.specs.Prelude.{◌≡◌, ◌==◌, ℕ, List, [], ◌∷◌, length, map, filter, All, Some, slice_get, if◌then◌else◌}
use Rattle.nf_base.specs.declared.packet.Packet.{Packet}
use Rattle.nf_base.specs.declared.state.State.{State}
use Rattle.nf_base.specs.Text.{Function}
use Rattle.lock_core.specs.declared.call.Ordered.{Ordered}
use Rattle.lock_core.specs.Histories.{Runs}
use Rattle.lock_workers.specs.Dealing.{own_places}

-- each packet of an order is the one at its place
abbrev pub AreAt : List Packet → List Ordered → List ℕ → Type 0
AreAt packets [] [] = Unit {0}
AreAt packets [] (place ∷ places) = ⊥
AreAt packets (x ∷ xs) [] = ⊥
AreAt packets (x ∷ xs) (place ∷ places) =
    (slice_get packets place ≡ Some x.packet) × AreAt packets xs places

-- the places of those that one worker handled, in the order
abbrev pub places_by : ℕ → List Ordered → List ℕ → List ℕ
places_by w [] places = []
places_by w (x ∷ xs) [] = []
places_by w (x ∷ xs) (place ∷ places) =
    if x.seat == w then place ∷ places_by w xs places else places_by w xs places

-- So many workers handled packets, each those of its ports, each once, in their order, and no
-- others. What they came to is what the undivided function does with them in the order in which
-- they stand, and this state is left.
pub record AreHandled (f : Function) (workers : ℕ) (packets : List Packet) (order : List Ordered)
    (places : List ℕ) (state : State) : Type 0 where
  pub runs : Runs f order state
  pub at : AreAt packets order places
  pub own : (w : ℕ) → places_by w order places ≡ own_places workers w packets

-- the packets of one worker, in an order
abbrev pub packets_by : ℕ → List Ordered → List Packet
packets_by w order = map (λ (x : Ordered). x.packet) (filter (λ (x : Ordered). x.seat == w) order)

-- how many of an order one worker handled
abbrev pub count_by : ℕ → List Ordered → ℕ
count_by w order = length (filter (λ (x : Ordered). x.seat == w) order)

-- worker 0 handled all packets, in their order
pub record AreInOrder (packets : List Packet) (order : List Ordered) : Type 0 where
  pub all : map (λ (x : Ordered). x.packet) order ≡ packets
  pub alone : All (λ (x : Ordered). x.seat ≡ 0) order
