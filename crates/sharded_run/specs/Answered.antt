-- Packets with their answers.
use Rattle.std.specs.Prelude.{List, [], ◌∷◌}
use Rattle.packet_feed.specs.Arrivals.{Arrival}
use Rattle.shard_core.specs.declared.collected.Collected.{Collected}
use Rattle.stream_run.specs.Runs.{Handled}

-- the first packets, each with what it came to
abbrev pub answered : List Arrival → List Collected → List Handled
answered [] cs = []
answered (a ∷ more) [] = []
answered (a ∷ more) (c ∷ cs) = record { arrival = a; worker = c.queue; done = c.done } ∷ answered more cs
