use Rattle.file_tests.proofs.pcapng.story.tell.Given as goal
use Rattle.nf_files.specs.Told.{IsRead}

-- the capture can be read
abbrev pub invariant-loop : goal.invariant-loop
invariant-loop g l = IsRead (g.F.Files.told l.files) l.reader.file
