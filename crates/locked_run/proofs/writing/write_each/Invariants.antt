use Rattle.std.proofs.Common.{◌≡◌, ◌+◌, ◌*◌, ◌<◌, ◌≤◌, ℕ, List, Some, take, slice_get}
use Rattle.nf_base.specs.declared.card.Card.{Card}
use Rattle.capture_format.specs.declared.format.CaptureFormat.{CaptureFormat}
use Rattle.run_history.specs.declared.line.Mode.{Mode}
use Rattle.stream_run.specs.Runs.{Handled}
use Rattle.stream_run.specs.Writing.{KeepsBut}
use Rattle.locked_run.specs.declared.chunk.Chunk.{Chunk}
use Rattle.locked_run.specs.Going.{AreWhole}
use Rattle.locked_run.specs.Chunks.{AreBare, AreOf, HoldAll}
use Rattle.locked_run.proofs.writing.write_each.Given as goal

-- the chunks so far are written, and the others are as they were
abbrev pub invariant-loop-i : goal.invariant-loop-i
invariant-loop-i g l =
    let told = g.F.Files.told in
    record {
      on : (mode : Mode) (workers : ℕ) (card : Card) (format : CaptureFormat) (ports : ℕ) (all : List Handled) (from size : ℕ) → HoldAll format ports all from size l.fn.chunks → AreWhole mode workers card format ports (take from all) (told l.fn.files) l.targets
          → AreWhole mode workers card format ports (take (from + l.i * size) all) (told l.files) l.targets × ((j : ℕ) (c : Chunk) → j < l.i → slice_get l.chunks j ≡ Some c → AreBare format c.sinks);
      rest : (j : ℕ) (c : Chunk) → l.i ≤ j → slice_get l.chunks j ≡ Some c → slice_get l.fn.chunks j ≡ Some c;
      same_files : AreOf l.targets l.chunks;
      kept : KeepsBut l.targets (told l.fn.files) (told l.files);
      count : g.F.Files.counted l.files ≡ g.F.Files.counted l.fn.files;
    }
