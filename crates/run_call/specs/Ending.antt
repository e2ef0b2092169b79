-- What a run comes to, before that is told on standard error.
use Rattle.std.specs.Prelude.{◌≡◌, ◌⊎◌, ℕ, ◌+◌, ◌<◌, ◌≤◌, List, [], ◌∷◌, length, Result, Ok, Err}
use Rattle.nf_base.specs.Text.{Function}
use Rattle.nf_files.specs.Told.{Told}
use Rattle.nf_files.specs.Causes.{asking}
use Rattle.stream_run.specs.Runs.{Run}
use Rattle.command_words.specs.Commands.{Run as RunAsked}
use Rattle.call_base.specs.declared.status.RunFile.{RunFile}
use Rattle.call_base.specs.declared.status.RunFile.TheVariants.{Nf, Capture, Journal, Output, OutJournal, State, Proof, Stdout, Stderr}
use Rattle.call_base.specs.declared.status.End.{End}
use Rattle.call_base.specs.declared.status.Refusal.{Refusal}
use Rattle.call_base.specs.declared.status.Refusal.TheVariants.{Usage, Text, NoKeys, NotCapture}
use Rattle.call_base.specs.declared.status.CallFault.{CallFault}
use Rattle.call_base.specs.declared.status.CallFault.TheVariants.{File, Memory}
use Rattle.call_base.specs.declared.status.Halt.{Halt}
use Rattle.call_base.specs.declared.status.Halt.TheVariants as halts
use Rattle.call_base.specs.Outside.{Outside, IsUntouched, HasOnlyAsked}
use Rattle.call_base.specs.Names.{reading, inputs_of, asked_by, asked_until, name_at}
use Rattle.call_base.specs.Layout.{Stops}
use Rattle.call_base.specs.Far.{IsFar}
use Rattle.call_base.specs.Captures.{Below, HasOtherPorts}
use Rattle.call_base.specs.Created.{Left, bytes_at}
use Rattle.call_base.specs.Source.{IsNoFunctionUnder}
use Rattle.packet_feed.specs.Told.{IsCapture}
use Rattle.run_call.specs.Runs.{HasPorts, IsRunOf, IsEndOf, left_by, HasNoKeys, HasNoCapture}
use Rattle.call_base.specs.Printed.{Printed, PrintedFront}
use Rattle.call_base.specs.Texts.{ran_line}
use Rattle.packet_feed.specs.Arrivals.{Arrival}

-- Behind the text and the captures so many files of a run were created, and so many of these are whole.
abbrev pub HasLeft : RunAsked → Outside → Outside → Run → (made full : ℕ) → Type 0
HasLeft c before now run made full =
    let ports = length c.captures in
    Left before.told now.told (before.told.next + 1 + ports) (name_at c.format c.out ports) (bytes_at c.format run) made full

-- A finished run: its journal lists every packet of every capture once, or the first so many, or those
-- before the share stop, in capture order, or with each port's in that order where workers share the
-- tables; the outputs and the text of the last state are those of one undivided run over that journal.
-- Each name was asked for once, and no file failed.
pub record IsFinished (Refused : Type 0) (c : RunAsked) (before now : Outside) (end : End) : Type 0 where
  pub arrivals : List Arrival
  pub run : Run
  pub is_run : IsRunOf Refused c before.told arrivals run
  pub ending : IsEndOf c before.told arrivals run end
  pub files : let count = left_by (length c.captures) end in HasLeft c before now run count count
  pub stdout : Printed before.told now.told 0 (ran_line (length run.turns) run.mode run.workers)
  pub stderr : now.told.given 1 ≡ before.told.given 1
  pub asked : let count = left_by (length c.captures) end in
      now.counted ≡ asking (asked_until c count) before.counted

-- Nothing was begun: why, and which names were asked for.
abbrev pub IsRefused : RunAsked → Outside → Outside → Refusal → Type 0
IsRefused c before now Usage =
    HasOtherPorts before.told c.function c.captures × HasOnlyAsked (reading c.function ∷ []) before now
IsRefused c before now (Text fault) =
    IsNoFunctionUnder before.told c.function fault × HasOnlyAsked (reading c.function ∷ []) before now
IsRefused c before now (NoKeys why) = HasNoKeys c before.told why × HasOnlyAsked (reading c.function ∷ []) before now
IsRefused c before now (NotCapture port) = HasNoCapture c before.told port × HasOnlyAsked (inputs_of c) before now

-- What is known where a capture failed before anything was created: the text is a function with as many
-- ports as there are captures, and where all captures were opened, those of lesser ports have headers.
pub record KnowsLesser (c : RunAsked) (told now : Told) (port : ℕ) : Type 0 where
  pub function : Function
  pub has_ports : HasPorts c told function
  pub lesser : now.next ≡ told.next + 1 + length c.captures → Below IsCapture told c.captures port

-- what is known where a file failed before anything was created
abbrev pub KnownAt : RunAsked → Told → Told → RunFile → Type 0
KnownAt c told now Nf = Unit {0}
KnownAt c told now (Capture port) = KnowsLesser c told now port
KnownAt c told now Journal = ⊥
KnownAt c told now (Output port) = ⊥
KnownAt c told now OutJournal = ⊥
KnownAt c told now State = ⊥
KnownAt c told now Proof = ⊥
KnownAt c told now Stdout = ⊥
KnownAt c told now Stderr = ⊥

abbrev pub IsKnown : RunAsked → Told → Told → CallFault → Type 0
IsKnown c told now (File file) = KnownAt c told now file
IsKnown c told now Memory = Unit {0}

-- A run was stopped before it created anything.
pub record IsUnbegun (c : RunAsked) (before now : Outside) (stop : CallFault) : Type 0 where
  pub known : IsKnown c before.told now.told stop
  pub untouched : IsUntouched before.told now.told
  pub stops : Stops before.told.next (length c.captures) (inputs_of c) before.counted now.counted stop

-- The run has ended so, and all files that it leaves are whole: the line on it is printed.
pub record IsPrinting (c : RunAsked) (before : Outside) (arrivals : List Arrival) (run : Run) (made full : ℕ) : Type 0 where
  pub end : End
  pub ending : IsEndOf c before.told arrivals run end
  pub all : made ≡ left_by (length c.captures) end
  pub whole : full ≡ made

-- The run has ended so that it leaves the text of its last state: no share stop was met.
pub record LeavesState (c : RunAsked) (before : Outside) (arrivals : List Arrival) (run : Run) : Type 0 where
  pub end : End
  pub ending : IsEndOf c before.told arrivals run end
  pub leaves : left_by (length c.captures) end ≡ length c.captures + 2

-- A run was stopped after it began to create files: each holds a front of what one run leaves there. The
-- state is created behind whole others, by a run that leaves one, and nothing is printed before all are
-- whole.
pub record IsCutShort (Refused : Type 0) (c : RunAsked) (before now : Outside) (stop : CallFault) : Type 0 where
  pub arrivals : List Arrival
  pub run : Run
  pub is_run : IsRunOf Refused c before.told arrivals run
  pub made : ℕ
  pub full : ℕ
  pub within : made ≤ length c.captures + 2
  pub files : HasLeft c before now run made full
  pub far : IsFar (IsPrinting c before arrivals run made full) (LeavesState c before arrivals run) (length c.captures)
      stop made full
  pub last : length c.captures + 1 < made → (length c.captures + 1 ≤ full) × LeavesState c before arrivals run
  pub stdout : (now.told.given 0 ≡ before.told.given 0)
      ⊎ (IsPrinting c before arrivals run made full
      × PrintedFront before.told now.told 0 (ran_line (length run.turns) run.mode run.workers))
  pub stderr : now.told.given 1 ≡ before.told.given 1
  pub stops : Stops before.told.next (length c.captures) (asked_by c) before.counted now.counted stop

-- A run was stopped by the outside or for want of memory.
abbrev pub IsStopped : Type 0 → RunAsked → Outside → Outside → CallFault → Type 0
IsStopped Refused c before now stop = IsUnbegun c before now stop ⊎ IsCutShort Refused c before now stop

-- what a run comes to
abbrev pub RunsTo : Type 0 → RunAsked → Outside → Outside → Result End Halt → Type 0
RunsTo Refused c before now (Ok end) = IsFinished Refused c before now end
RunsTo Refused c before now (Err (halts.Refusal why)) = IsRefused c before now why
RunsTo Refused c before now (Err (halts.Stop stop)) = IsStopped Refused c before now stop
