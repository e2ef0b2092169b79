use Rattle.std.proofs.Common.{◌≡◌, take}
use Rattle.stream_run.specs.Writing.{files_of}
use Rattle.locked_run.specs.Chunks.{AreBare}
use Rattle.locked_run.proofs.chunk.Chunk.new.Given as goal

-- the files so far are there
abbrev pub invariant-loop-k : goal.invariant-loop-k
invariant-loop-k l = record {
  files : files_of l.sinks ≡ take l.k l.targets;
  bare : AreBare l.format l.sinks;
}
