use Rattle.std.proofs.Common.{◌≡◌, ◌-◌, ℕ, List, length}
use Rattle.packet_feed.specs.Sources.{files_in}
use Rattle.stream_run.specs.Writing.{KeepsBut}
use Rattle.sharded_run.specs.Reading.{Gathers}
use Rattle.locked_run.proofs.reading.read_all.Given as goal

-- so many packets were read
abbrev pub invariant-packets : goal.invariant-packets
invariant-packets g l =
    let told = g.F.Files.told in
    record {
      gathers : Gathers (length l.captures) l.fn.feed l.feed (told l.fn.files) (told l.files) l.batch;
      captures : files_in l.feed.sources ≡ l.captures;
      kept : (targets : List ℕ) → KeepsBut targets (told l.fn.files) (told l.files);
      count : g.F.Files.counted l.files ≡ g.F.Files.counted l.fn.files;
    }

abbrev pub decreases-packets : goal.decreases-packets
decreases-packets g l = l.feed.most - l.feed.given
