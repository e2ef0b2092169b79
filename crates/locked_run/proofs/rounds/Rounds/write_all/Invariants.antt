use Rattle.std.proofs.Common.{◌≡◌, ◌-◌, ◌≤◌, ℕ, [], length, take}
use Rattle.nf_base.specs.declared.card.Card.{Card}
use Rattle.capture_format.specs.declared.format.CaptureFormat.{CaptureFormat}
use Rattle.run_history.specs.declared.line.Mode.{Mode}
use Rattle.stream_run.specs.Writing.{KeepsBut}
use Rattle.locked_run.specs.Handled.{joined}
use Rattle.locked_run.specs.Going.{AreWhole}
use Rattle.locked_run.specs.Rounds.{step_of, AreRounds, AreAllIdle, AreReady}
use Rattle.locked_run.proofs.rounds.Rounds.write_all.Given as goal

-- the packets so far are written, and those of the next round are ready
abbrev pub invariant-rounds : goal.invariant-rounds
invariant-rounds g l =
    let told = g.F.Files.told in
    let all = joined l.batch l.worked.order l.worked.places.items in
    record {
      on : (mode : Mode) (workers : ℕ) (card : Card) (format : CaptureFormat) → AreAllIdle format l.fn.self → AreWhole mode workers card format l.ports [] (told l.fn.files) l.targets
          → AreWhole mode workers card format l.ports (take l.from all) (told l.files) l.targets × AreReady format l.ports all l.from l.self;
      rounds : AreRounds l.targets (step_of l.fn.self) l.self;
      within : l.from ≤ length l.worked.places.items;
      kept : KeepsBut l.targets (told l.fn.files) (told l.files);
      count : g.F.Files.counted l.files ≡ g.F.Files.counted l.fn.files;
    }

abbrev pub decreases-rounds : goal.decreases-rounds
decreases-rounds g l = length l.worked.places.items - l.from
