-- How a run in mode `lock` goes: packets that were read are handled, and what they leave is
-- written.
use Rattle.std.specs.Prelude.{◌≡◌, ◌⊎◌, ◌==◌, ◌≤◌, ◌^◌, ℕ, List, [], length, map, slice_get, Some, Result, Ok, Err, if◌then◌else◌}
use Rattle.nf_base.specs.declared.card.Card.{Card}
use Rattle.capture_format.specs.declared.format.CaptureFormat.{CaptureFormat}
use Rattle.nf_base.specs.declared.state.State.{State}
use Rattle.nf_base.specs.Text.{Function}
use Rattle.nf_files.specs.Told.{Told, IsToldAs, IsEmptyIfTold}
use Rattle.packet_feed.specs.Arrivals.{Arrival}
use Rattle.run_history.specs.declared.line.Mode.{Mode}
use Rattle.run_history.specs.declared.line.Mode.TheVariants.{One, Lock}
use Rattle.stream_run.specs.Given.{AreWritable}
use Rattle.stream_run.specs.Runs.{Handled}
use Rattle.stream_run.specs.Texts.{bytes_of}
use Rattle.stream_run.specs.Writing.{AreFronts}
use Rattle.stream_run.specs.Streaming.{arrival_of}
use Rattle.stream_run.specs.Orders.{Keeps}
use Rattle.stream_run.specs.Rules.{Rule, AreBy}
use Rattle.locked_run.specs.declared.result.Settled.{Settled}
use Rattle.locked_run.specs.Locked.{IsDue}

-- the mode in which so many of the workers handled packets
abbrev pub mode_of : ℕ → ℕ → Mode
mode_of handled_by workers = if handled_by == workers then Lock else One

-- These packets, given so, were handled by the rule that is due, in this mode.
pub record AreSettled (f : Function) (mode : Mode) (workers : ℕ) (Refused : Type 0)
    (given : List Arrival) (hs : List Handled) (state : State) : Type 0 where
  pub rule : Rule
  pub due : IsDue workers Refused rule
  pub mode_is : mode ≡ rule.mode
  pub are : AreBy rule f hs state
  pub order : Keeps rule.order given (map arrival_of hs)

-- files that were created, none of them twice and not too many, to which nothing was given yet
pub record AreFresh (now : Told) (files : List ℕ) : Type 0 where
  pub writable : AreWritable now files
  pub few : length files ≤ 2 ^ 32
  pub empty : (k file : ℕ) → slice_get files k ≡ Some file → IsEmptyIfTold (now.given file)

-- each file was given what packets leave there
abbrev pub AreWhole : Mode → ℕ → Card → CaptureFormat → ℕ → List Handled → Told → List ℕ → Type 0
AreWhole mode workers card format ports hs now files =
    (k file : ℕ) → slice_get files k ≡ Some file →
    IsToldAs (bytes_of mode workers card format ports k hs) (now.given file)

-- what writing comes to: all was written, or fronts of it
abbrev pub Writes : {T E : Type 0} → Mode → ℕ → Card → CaptureFormat → ℕ → List Handled → Told →
    List ℕ → Result T E → Type 0
Writes mode workers card format ports hs now files (Ok x) =
    AreWhole mode workers card format ports hs now files
Writes mode workers card format ports hs now files (Err e) =
    AreFronts mode workers card format ports hs now files

-- all packets were handled, and written
pub record AllWritten (f : Function) (workers : ℕ) (card : Card) (format : CaptureFormat)
    (Refused : Type 0) (ports : ℕ) (batch : List Arrival) (now : Told) (files : List ℕ)
    (settled : Settled) : Type 0 where
  pub hs : List Handled
  pub are : AreSettled f settled.mode workers Refused batch hs settled.state
  pub wholes : AreWhole settled.mode workers card format ports hs now files

-- it was stopped: all packets were handled or none was, and fronts were written
pub record IsHalted (f : Function) (workers : ℕ) (card : Card) (format : CaptureFormat)
    (Refused : Type 0) (ports : ℕ) (batch : List Arrival) (now : Told) (files : List ℕ)
    : Type 0 where
  pub mode : Mode
  pub given : List Arrival
  pub hs : List Handled
  pub state : State
  pub some : (given ≡ []) ⊎ (given ≡ batch)
  pub are : AreSettled f mode workers Refused given hs state
  pub fronts : AreFronts mode workers card format ports hs now files

-- what handling and writing packets comes to
abbrev pub Settles : {E : Type 0} → Function → ℕ → Card → CaptureFormat → Type 0 → ℕ →
    List Arrival → Told → List ℕ → Result Settled E → Type 0
Settles f workers card format Refused ports batch now files (Ok settled) =
    AllWritten f workers card format Refused ports batch now files settled
Settles f workers card format Refused ports batch now files (Err stop) =
    IsHalted f workers card format Refused ports batch now files
