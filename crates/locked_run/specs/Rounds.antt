-- Chunks of two rounds: while those of one are written, those of the next are made.
use Rattle.std.specs.Prelude.{◌≡◌, ◌*◌, ◌<◌, ◌≤◌, ℕ, List, length, take, Result, Ok, Err}
use Rattle.nf_base.specs.declared.card.Card.{Card}
use Rattle.capture_format.specs.declared.format.CaptureFormat.{CaptureFormat}
use Rattle.nf_files.specs.Told.{Told}
use Rattle.packet_feed.specs.Told.{IsApart}
use Rattle.run_history.specs.declared.line.Mode.{Mode}
use Rattle.stream_run.specs.Runs.{Handled}
use Rattle.stream_run.specs.Writing.{AreFronts}
use Rattle.locked_run.specs.declared.rounds.Rounds.{Rounds}
use Rattle.locked_run.specs.Going.{AreWhole}
use Rattle.locked_run.specs.Chunks.{AreOf, AreIdle, HoldAll}

-- how many packets the chunks of one round are of
abbrev pub step_of : Rounds → ℕ
step_of r = length r.made.items * r.size

-- two rounds of as many chunks for these files; one is of so many packets, and not too many
pub record AreRounds (targets : List ℕ) (step : ℕ) (r : Rounds) : Type 0 where
  pub apart : IsApart targets
  pub some : 0 < step
  pub few : step ≤ 2147483648
  pub step_is : step_of r ≡ step
  pub as_many : length r.next.items ≡ length r.made.items
  pub made_files : AreOf targets r.made.items
  pub next_files : AreOf targets r.next.items

-- nothing is held
pub record AreAllIdle (format : CaptureFormat) (r : Rounds) : Type 0 where
  pub made_idle : AreIdle format r.made.items
  pub next_idle : AreIdle format r.next.items

-- what the packets of one round leave, from one on, is held to be written next, where there was
-- memory for it, and of those behind them nothing is
pub record AreReady (format : CaptureFormat) (ports : ℕ) (all : List Handled) (from : ℕ)
    (r : Rounds) : Type 0 where
  pub holds : HoldAll format ports all from r.size r.made.items
  pub next_idle : AreIdle format r.next.items

-- what a turn comes to: so many packets are written then, and the next ones are ready; or fronts
-- are
abbrev pub TurnsTo : {T E : Type 0} → Mode → ℕ → Card → CaptureFormat → ℕ → List Handled → ℕ →
    Told → List ℕ → Rounds → Result T E → Type 0
TurnsTo mode workers card format ports all next now files r (Ok x) =
    AreWhole mode workers card format ports (take next all) now files
    × AreReady format ports all next r
TurnsTo mode workers card format ports all next now files r (Err e) =
    AreFronts mode workers card format ports all now files
