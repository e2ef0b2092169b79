use Rattle.std.proofs.Common.{IfSome}
use Rattle.file_tests.proofs.script.make_all.Given as goal
use Rattle.nf_files.specs.Told.{IsRead, IsWritten}

-- the file that was opened last can be read, and the one that was created last written
abbrev pub invariant-loop-call : goal.invariant-loop-call
invariant-loop-call g l = record {
  input : IfSome l.last.input (IsRead (g.F.Files.told l.files));
  output : IfSome l.last.output (IsWritten (g.F.Files.told l.files));
}
