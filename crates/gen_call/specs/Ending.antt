-- What a run over made-up traffic comes to, before that is told on standard error.
use Rattle.std.specs.Prelude.{◌≡◌, ◌⊎◌, ℕ, ◌+◌, ◌<◌, ◌≤◌, List, [], ◌∷◌, length, Result, Ok, Err}
use Rattle.nf_files.specs.Causes.{asking}
use Rattle.packet_feed.specs.Arrivals.{Arrival}
use Rattle.stream_run.specs.Runs.{Run}
use Rattle.traffic_run.specs.Runs.{AreFirst}
use Rattle.command_words.specs.Commands.{Gen}
use Rattle.call_base.specs.declared.status.End.{End}
use Rattle.call_base.specs.declared.status.End.TheVariants.{Whole, Torn, TooMany, ShareFull}
use Rattle.call_base.specs.declared.status.Refusal.{Refusal}
use Rattle.call_base.specs.declared.status.Refusal.TheVariants.{Usage, Text, NoKeys, NotCapture}
use Rattle.call_base.specs.declared.status.CallFault.{CallFault}
use Rattle.call_base.specs.declared.status.Halt.{Halt}
use Rattle.call_base.specs.declared.status.Halt.TheVariants as halts
use Rattle.call_base.specs.Outside.{Outside, IsUntouched, HasOnlyAsked}
use Rattle.call_base.specs.Names.{reading, name_at}
use Rattle.call_base.specs.Created.{Left, bytes_at}
use Rattle.call_base.specs.Far.{IsFar}
use Rattle.call_base.specs.Source.{IsNoFunctionUnder}
use Rattle.call_base.specs.Loading.{IsTextCause}
use Rattle.call_base.specs.Printed.{Printed, PrintedFront}
use Rattle.gen_call.specs.Numbers.{Stops}
use Rattle.gen_call.specs.Runs.{packets_for, IsRunOf, IsEndOf, left_by, HasNoKeys, IsSummary, asked_until}

-- how many ports a run has
abbrev pub ports_of : Run → ℕ
ports_of run = length run.function.handlers

-- Behind the text so many files of a run were created, and so many of these are whole.
abbrev pub HasLeft : Gen → Outside → Outside → Run → (made full : ℕ) → Type 0
HasLeft c before now run made full =
    Left before.told now.told (before.told.next + 1) (name_at c.format c.out (ports_of run)) (bytes_at c.format run) made full

-- The lines on a run were printed, and so they are only once it has handled all packets.
pub record IsTold (c : Gen) (before now : Outside) (run : Run) : Type 0 where
  pub text : List ℕ
  pub is_summary : IsSummary c now.told (before.told.next + 1) run text
  pub printed : Printed before.told now.told 0 text

abbrev pub Tells : Gen → Outside → Outside → Run → End → Type 0
Tells c before now run Whole = IsTold c before now run
Tells c before now run (ShareFull full) = now.told.given 0 ≡ before.told.given 0
Tells c before now run (Torn port offset) = ⊥
Tells c before now run (TooMany most) = ⊥

-- A finished run: its journal lists every packet of the traffic once, or those before the share stop, in
-- an order that its mode allows; the outputs and the text of the last state are those of one undivided
-- run over that journal. Each name was asked for once, and no file failed.
pub record IsFinished (c : Gen) (Refused : Type 0) (before now : Outside) (end : End) : Type 0 where
  pub run : Run
  pub given : List Arrival
  pub is_run : IsRunOf c Refused before.told given run
  pub ending : IsEndOf c run given end
  pub files : let count = left_by (ports_of run) end in HasLeft c before now run count count
  pub stdout : Tells c before now run end
  pub stderr : now.told.given 1 ≡ before.told.given 1
  pub asked : let count = left_by (ports_of run) end in
      now.counted ≡ asking (asked_until c (ports_of run) count) before.counted

-- Nothing was begun: why, and which name was asked for.
abbrev pub IsRefused : Gen → Outside → Outside → Refusal → Type 0
IsRefused c before now Usage = ⊥
IsRefused c before now (Text fault) =
    IsNoFunctionUnder before.told c.function fault × HasOnlyAsked (reading c.function ∷ []) before now
IsRefused c before now (NoKeys why) = HasNoKeys c before.told why × HasOnlyAsked (reading c.function ∷ []) before now
IsRefused c before now (NotCapture port) = ⊥

-- A run was stopped before it created anything: the text's file failed, or memory ran out.
pub record IsUnbegun (c : Gen) (before now : Outside) (stop : CallFault) : Type 0 where
  pub untouched : IsUntouched before.told now.told
  pub cause : IsTextCause c.function before.told.next before.counted now.counted stop

-- All packets were handled, and all files are whole: the lines on the run are printed.
pub record IsPrinting (c : Gen) (run : Run) (given : List Arrival) (made full : ℕ) : Type 0 where
  pub ending : IsEndOf c run given Whole
  pub all : made ≡ left_by (ports_of run) Whole
  pub whole : full ≡ made

-- A run was stopped after it began to create files: each holds a front of what one run leaves there, over
-- all packets or some first ones. The state is created behind whole others, once all packets were handled,
-- and nothing is printed before all are whole.
pub record IsCutShort (c : Gen) (Refused : Type 0) (before now : Outside) (stop : CallFault) : Type 0 where
  pub run : Run
  pub given : List Arrival
  pub is_run : IsRunOf c Refused before.told given run
  pub first : AreFirst (packets_for c run.function) given
  pub made : ℕ
  pub full : ℕ
  pub within : made ≤ ports_of run + 2
  pub files : HasLeft c before now run made full
  pub far : IsFar (IsPrinting c run given made full) (IsEndOf c run given Whole) (ports_of run) stop made full
  pub last : ports_of run + 1 < made → (ports_of run + 1 ≤ full) × IsEndOf c run given Whole
  pub stdout : (now.told.given 0 ≡ before.told.given 0)
      ⊎ (IsPrinting c run given made full × ((text : List ℕ) × IsSummary c now.told (before.told.next + 1) run text × PrintedFront before.told now.told 0 text))
  pub stderr : now.told.given 1 ≡ before.told.given 1
  pub stops : Stops before.told.next (ports_of run) (asked_until c (ports_of run) (ports_of run + 2)) before.counted now.counted stop

-- A run was stopped by the outside or for want of memory.
abbrev pub IsStopped : Gen → Type 0 → Outside → Outside → CallFault → Type 0
IsStopped c Refused before now stop = IsUnbegun c before now stop ⊎ IsCutShort c Refused before now stop

-- what a run comes to
abbrev pub GensTo : Gen → Type 0 → Outside → Outside → Result End Halt → Type 0
GensTo c Refused before now (Ok end) = IsFinished c Refused before now end
GensTo c Refused before now (Err (halts.Refusal why)) = IsRefused c before now why
GensTo c Refused before now (Err (halts.Stop stop)) = IsStopped c Refused before now stop
