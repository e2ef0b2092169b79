use Rattle.std.proofs.Common.{◌≡◌}
use Rattle.nf_base.specs.Functions.{function_of}
use Rattle.nf_base.specs.Doors.{six_ports}
use Rattle.packet_feed.proofs.Starting.{AreOpenedSoFar}
use Rattle.packet_feed.proofs.sources.open_all.Given as goal

-- the headers so far were read
abbrev pub invariant-loop-port : goal.invariant-loop-port
invariant-loop-port g l =
    let told = g.F.Files.told in
    record {
      opened : AreOpenedSoFar l.captures (six_ports (function_of l.func)) l.port (told l.fn.files) l.sources (told l.files);
      count : g.F.Files.counted l.files ≡ g.F.Files.counted l.fn.files;
    }
