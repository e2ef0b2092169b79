-- All packets of captures are read before any of them is handled.
use Rattle.std.specs.Prelude.{ℕ, List, Result, Ok, Err}
use Rattle.nf_files.specs.Told.{Told}
use Rattle.packet_feed.specs.Arrivals.{Arrival}
use Rattle.packet_feed.specs.Feeding.{Feeding}
use Rattle.stream_run.specs.declared.ending.Ending.{Ending}
use Rattle.sharded_run.specs.Reading.{Gathers, IsOver}

-- what reading all packets comes to: none is left, or as many were read as may be and one is left
abbrev pub ReadsAll : {E : Type 0} → ℕ → Feeding → Told → Feeding → Told → List Arrival →
    Result Ending E → Type 0
ReadsAll ports begun start feed now batch (Ok ending) =
    Gathers ports begun feed start now batch × IsOver ending begun start feed batch
ReadsAll ports begun start feed now batch (Err stop) = Unit {0}
