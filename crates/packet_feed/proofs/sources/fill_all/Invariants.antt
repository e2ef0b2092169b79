use Rattle.std.proofs.Common.{◌≡◌, ◌<◌, ℕ, List, Some}
use Rattle.std.specs.List.{slice_get}
use Rattle.nf_files.specs.Told.{Told}
use Rattle.packet_feed.specs.Arrivals.{Arrival}
use Rattle.packet_feed.specs.Told.{KeepsOthers}
use Rattle.packet_feed.specs.Streams.{Stream, IsSettled}
use Rattle.packet_feed.specs.Sources.{files_in, sixes_in, counts_in, SourcesStand, AreFrom}
use Rattle.packet_feed.proofs.sources.fill_all.Given as goal

-- what stood still stands, and of the captures so far it is known what comes next
abbrev pub invariant-loop-port : goal.invariant-loop-port
invariant-loop-port g l =
    let told = g.F.Files.told in
    record {
      stand : (start : Told) (given : List Arrival) → SourcesStand start given l.fn.sources (told l.fn.files) → SourcesStand start given l.sources (told l.files);
      settled : (port : ℕ) (s : Stream) → port < l.port → slice_get l.sources port ≡ Some s → IsSettled s.ahead;
      later : (time : ℕ) → AreFrom time l.fn.sources → AreFrom time l.sources;
      same_files : files_in l.sources ≡ files_in l.fn.sources;
      same_six : sixes_in l.sources ≡ sixes_in l.fn.sources;
      same_counts : counts_in l.sources ≡ counts_in l.fn.sources;
      kept : KeepsOthers (files_in l.fn.sources) (told l.fn.files) (told l.files);
      count : g.F.Files.counted l.files ≡ g.F.Files.counted l.fn.files;
    }
