use Rattle.std.proofs.Common.{◌≡◌, ◌≤◌, List, length, Ok}
use Rattle.nf_base.specs.declared.card.Card.{Card}
use Rattle.capture_format.specs.declared.format.CaptureFormat.{CaptureFormat}
use Rattle.nf_files.specs.Told.{Told}
use Rattle.packet_feed.specs.Arrivals.{Arrival}
use Rattle.packet_feed.specs.Feeding.{Feeding}
use Rattle.packet_feed.specs.Sources.{files_in, sixes_in}
use Rattle.shard_machine.specs.Machine.{Setup}
use Rattle.stream_run.specs.Writing.{files_of, WentOn}
use Rattle.sharded_run.specs.Passing.{Passing, Suits}
use Rattle.sharded_run.specs.Reading.{Gathers}
use Rattle.sharded_run.proofs.streaming.pass_all.Given as goal

-- what was read and written so far
abbrev pub invariant-loop : goal.invariant-loop
invariant-loop g l =
    let told = g.F.Files.told in
    let ports = length l.captures in
    record {
      passing : (x : Setup) (card : Card) (format : CaptureFormat) (begun : Feeding) (start : Told) (all : List Arrival) → Suits x ports l.fn.crew l.fn.feed → length (files_in begun.sources) ≡ ports
          → Passing x card format (told l.fn.files) l.fn.crew l.fn.sinks all → Gathers ports begun l.fn.feed start (told l.fn.files) all
          → (more : List Arrival) × Passing x card format (told l.files) l.crew l.sinks more × Gathers ports begun l.feed start (told l.files) more;
      router : l.crew.router ≡ l.fn.crew.router;
      ports_same : l.crew.ports ≡ l.fn.crew.ports;
      captures : files_in l.feed.sources ≡ l.captures;
      six : sixes_in l.feed.sources ≡ sixes_in l.fn.feed.sources;
      fewer : length l.crew.frames ≤ l.feed.given;
      same_files : files_of l.sinks ≡ files_of l.fn.sinks;
      went : WentOn {T = Unit {0}} l.captures (files_of l.fn.sinks) (told l.fn.files) (told l.files) (g.F.Files.counted l.fn.files) (g.F.Files.counted l.files) (Ok tt);
    }
