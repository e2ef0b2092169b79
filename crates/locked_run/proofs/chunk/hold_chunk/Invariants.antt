use Rattle.std.proofs.Common.{◌≡◌, take, drop}
use Rattle.capture_format.specs.declared.format.CaptureFormat.{CaptureFormat}
use Rattle.stream_run.specs.Writing.{files_of}
use Rattle.locked_run.specs.Handled.{joined}
use Rattle.locked_run.specs.Chunks.{HoldPieces, AreBare}
use Rattle.locked_run.proofs.chunk.hold_chunk.Given as goal

-- what the first packets of the chunk leave is held
abbrev pub invariant-loop-j : goal.invariant-loop-j
invariant-loop-j l = record {
  holds : (format : CaptureFormat) → AreBare format l.fn.sinks → HoldPieces format l.ports (take l.j (drop l.from (joined l.batch l.order l.places))) l.sinks;
  same_files : files_of l.sinks ≡ files_of l.fn.sinks;
}
