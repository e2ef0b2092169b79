-- A feed of captures that are made of packets.
use Rattle.std.specs.Prelude.{◌≡◌, ℕ, Bool, List, [], length}
use Rattle.nf_files.specs.Told.{Told}
use Rattle.packet_feed.specs.Arrivals.{Arrival}
use Rattle.packet_feed.specs.Sources.{files_in, sixes_in}
use Rattle.packet_feed.specs.Feeding.{Feeding, StandsFor}
use Rattle.traffic_run.specs.Runs.{ArePackets}

-- It stands for captures of as many packets as may be given, these, and gave none yet; it knows which
-- ports have a handler for IPv6.
pub record HasStarted (six : List Bool) (captures : List ℕ) (feed : Feeding) (now : Told) (arrivals : List Arrival) : Type 0 where
  pub before : Told
  pub stands : StandsFor before [] feed now
  pub files : files_in feed.sources ≡ captures
  pub six_is : sixes_in feed.sources ≡ six
  pub packets : ArePackets six captures before arrivals
  pub most : feed.most ≡ length arrivals
  pub given : feed.given ≡ 0
