use Rattle.std.proofs.Common.{◌≡◌, ◌<◌, ℕ, List, Some}
use Rattle.std.specs.List.{slice_get}
use Rattle.nf_base.specs.declared.card.Card.{Card}
use Rattle.capture_format.specs.declared.format.CaptureFormat.{CaptureFormat}
use Rattle.run_history.specs.declared.line.Mode.{Mode}
use Rattle.stream_run.specs.Runs.{Handled}
use Rattle.stream_run.specs.Texts.{bytes_of}
use Rattle.stream_run.specs.Writing.{Holding, files_of, AreHeld, IsLittle, KeepsAllBut}
use Rattle.stream_run.proofs.Held.{IsPartly}
use Rattle.stream_run.proofs.sinks.flush_full.Given as goal

-- of the files so far little is held
abbrev pub invariant-loop-k : goal.invariant-loop-k
invariant-loop-k g l =
    let told = g.F.Files.told in
    record {
      partly : (mode : Mode) (workers : ℕ) (card : Card) (format : CaptureFormat) (ports : ℕ) (hs : List Handled) → AreHeld mode workers card format ports hs (told l.fn.files) l.fn.sinks
          → IsPartly format (λ j. bytes_of mode workers card format ports j hs) (λ j. bytes_of mode workers card format ports j hs) l.k (told l.files) l.sinks;
      little : (j : ℕ) (s : Holding) → j < l.k → slice_get l.sinks j ≡ Some s → IsLittle s;
      same_files : files_of l.sinks ≡ files_of l.fn.sinks;
      kept : KeepsAllBut (files_of l.fn.sinks) (told l.fn.files) (told l.files);
      count : g.F.Files.counted l.files ≡ g.F.Files.counted l.fn.files;
    }
