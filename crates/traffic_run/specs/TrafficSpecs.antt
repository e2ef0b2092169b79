-- The traffic that is asked for.
use Rattle.std.specs.Prelude.{ℕ, List}
use Rattle.packet_feed.specs.Arrivals.{Arrival}
use Rattle.gen_traffic.specs.Traffic.{Recipe}
use Rattle.made_captures.specs.Laws.{arrivals_of}
use Rattle.traffic_run.specs.declared.traffic_spec.TrafficSpec.{TrafficSpec}

-- what it is made of, at so many ports
abbrev pub recipe_of : TrafficSpec → ℕ → Recipe
recipe_of asked ports = record { seed = asked.seed; count = asked.count; flows = asked.flows; ports = ports }

-- its packets, in the order in which they are made
abbrev pub asked_for : TrafficSpec → ℕ → List Arrival
asked_for asked ports = arrivals_of (recipe_of asked ports)
