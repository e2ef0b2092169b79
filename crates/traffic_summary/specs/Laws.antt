-- Laws of the summary.
use Rattle.std.specs.Prelude.{◌≡◌, ℕ, ◌<◌, length}
use Rattle.gen_traffic.specs.Traffic.{Recipe, traffic}
use Rattle.made_captures.specs.Records.{at_port}
use Rattle.traffic_summary.specs.Summary.{count_at}

-- As many packets of traffic come in at a port as its line says.
abbrev pub PortsAreCounted : Type 0
PortsAreCounted = (r : Recipe) (port : ℕ) → port < r.ports → length (at_port port (traffic r)) ≡ count_at r.count r.ports port
