use Rattle.packet_feed.specs.Told.{EachFile}
use Rattle.packet_feed.specs.Sources.{files_in}
use Rattle.file_tests.proofs.feed.story.tell.Given as goal
use Rattle.nf_files.specs.Told.{IsRead}

-- all captures can be read
abbrev pub invariant-loop : goal.invariant-loop
invariant-loop g l = EachFile (IsRead (g.F.Files.told l.files)) (files_in l.feed.sources)
