-- The captures under some names.
use Rattle.std.specs.Prelude.{◌≡◌, ◌≢◌, ℕ, ◌<◌, List, length, slice_get, Option, Some}
use Rattle.nf_base.specs.Text.{Function}
use Rattle.nf_base.specs.Doors.{six_ports, six_at}
use Rattle.nf_files.specs.Told.{Told}
use Rattle.packet_feed.specs.Arrivals.{Arrival}
use Rattle.packet_feed.specs.Told.{gathered, packets_in}
use Rattle.call_base.specs.Source.{IsFunctionUnder}

-- the packets of the captures under some names, of which the i-th is that of a function's port i,
-- where all are told
abbrev pub packets_under : Function → List (List ℕ) → Told → Option (List Arrival)
packets_under f names told =
    gathered (λ port n. packets_in (six_at (six_ports f) port) port (told.content n)) 0 names

-- so it is of what stands under each name below a port
abbrev pub Below : (Option (List ℕ) → Type 0) → Told → List (List ℕ) → ℕ → Type 0
Below P told names port = (p : ℕ) (n : List ℕ) → p < port → slice_get names p ≡ Some n → P (told.content n)

-- The text under a name is a network function whose ports are not as many as the captures.
pub record HasOtherPorts (told : Told) (name : List ℕ) (captures : List (List ℕ)) : Type 0 where
  pub function : Function
  pub is_function : IsFunctionUnder told name function
  pub not_as_many : length captures ≢ length function.handlers
