use Rattle.std.proofs.Common.{◌≡◌}
use Rattle.packet_feed.specs.Told.{EachFile}
use Rattle.packet_feed.specs.Sources.{files_in}
use Rattle.file_tests.proofs.feed.tests.left_after.Given as goal
use Rattle.nf_files.specs.Told.{IsRead}

-- all captures can be read, and are those of the feed
abbrev pub invariant-loop : goal.invariant-loop
invariant-loop g l = record {
  readable : EachFile (IsRead (g.F.Files.told l.files)) (files_in l.feed.sources);
  files : files_in l.feed.sources ≡ l.opened.items;
}
