use Rattle.std.proofs.Common.{◌≡◌}
use Rattle.stream_run.specs.Texts.{told_in}
use Rattle.stream_run.specs.Writing.{files_of}
use Rattle.stream_run.proofs.Grown.{ArePartlyGrown}
use Rattle.stream_run.proofs.sinks.hold_line.Given as goal

-- for the files so far more is held
abbrev pub invariant-loop-k : goal.invariant-loop-k
invariant-loop-k l = record {
  grown : ArePartlyGrown (told_in l.ports l.handled) l.fn.sinks l.k l.sinks;
  same_files : files_of l.sinks ≡ files_of l.fn.sinks;
}
