-- What a replay comes to, before that is told on standard error.
use Rattle.std.specs.Prelude.{◌≡◌, ◌⊎◌, ℕ, ◌+◌, ◌<◌, ◌≤◌, List, [], ◌∷◌, length, Result, Ok, Err}
use Rattle.nf_base.specs.Text.{Function}
use Rattle.nf_base.specs.declared.state.State.{State}
use Rattle.nf_files.specs.Told.{Told}
use Rattle.nf_files.specs.Causes.{asking}
use Rattle.packet_feed.specs.Told.{IsCapture}
use Rattle.run_history.specs.StateText.{state_text}
use Rattle.replay_run.specs.declared.result.ReplayResult.{ReplayResult}
use Rattle.replay_run.specs.declared.result.ReplayResult.TheVariants as came
use Rattle.command_words.specs.Commands.{Replay}
use Rattle.call_base.specs.declared.status.Difference.TheVariants as difference
use Rattle.call_base.specs.declared.status.Refusal.{Refusal}
use Rattle.call_base.specs.declared.status.Refusal.TheVariants.{Usage, Text, NoKeys, NotCapture}
use Rattle.call_base.specs.declared.status.Status.{Status}
use Rattle.call_base.specs.declared.status.Status.TheVariants.{Done, TooMany, Differs}
use Rattle.call_base.specs.declared.status.RunFile.{RunFile}
use Rattle.call_base.specs.declared.status.RunFile.TheVariants.{Nf, Capture, Journal, Output, OutJournal, State as LastState, Proof, Stdout, Stderr}
use Rattle.call_base.specs.declared.status.CallFault.{CallFault}
use Rattle.call_base.specs.declared.status.CallFault.TheVariants.{File, Memory}
use Rattle.call_base.specs.declared.status.Halt.{Halt}
use Rattle.call_base.specs.declared.status.Halt.TheVariants as halts
use Rattle.call_base.specs.Captures.{Below, HasOtherPorts}
use Rattle.call_base.specs.Names.{reading}
use Rattle.call_base.specs.Numbers.{StopsBy}
use Rattle.call_base.specs.Outside.{Outside, HasOnlyAsked}
use Rattle.call_base.specs.Printed.{Printed, PrintedFront}
use Rattle.call_base.specs.Source.{IsNoFunctionUnder}
use Rattle.replay_call.specs.declared.ending.ReplayEnd.{ReplayEnd}
use Rattle.replay_call.specs.declared.ending.ReplayEnd.TheVariants as ends
use Rattle.replay_call.specs.Numbers.{numbering}
use Rattle.replay_call.specs.Names.{inputs_of, asked_by}
use Rattle.replay_call.specs.Contents.{HasPorts, HasNoCapture, HasReplayed}

-- how a replay ends that comes to this
abbrev pub checked_by : ℕ → ReplayResult → ReplayEnd
checked_by most (came.Same state) = ends.Same
checked_by most came.TooMany = ends.TooMany most
checked_by most (came.Line line) = ends.Differs (difference.Line line)
checked_by most (came.Output port) = ends.Differs (difference.Output port)

-- the status of a replay that ends so
abbrev pub checked_status : ReplayEnd → Status
checked_status ends.Same = Done
checked_status (ends.TooMany most) = TooMany most
checked_status (ends.Differs at) = Differs at

-- what is printed: the text of the state that a run left, where all is the same
abbrev pub printed_by : Function → ReplayResult → List ℕ
printed_by f (came.Same state) = state_text f state
printed_by f came.TooMany = []
printed_by f (came.Line line) = []
printed_by f (came.Output port) = []

-- A replay that nothing stopped: what it comes to, and what was printed of it. Each name was asked for
-- once, and nothing else has changed.
pub record IsChecked (c : Replay) (before now : Outside) (checked : ReplayEnd) : Type 0 where
  pub function : Function
  pub came : ReplayResult
  pub replayed : HasReplayed c before.told function came
  pub checked_is : checked ≡ checked_by c.most came
  pub contents : (n : List ℕ) → now.told.content n ≡ before.told.content n
  pub stdout : Printed before.told now.told 0 (printed_by function came)
  pub stderr : now.told.given 1 ≡ before.told.given 1
  pub asked : now.counted ≡ asking (asked_by c) before.counted

-- Nothing was judged: why, and which names were asked for.
abbrev pub IsRefused : Replay → Outside → Outside → Refusal → Type 0
IsRefused c before now Usage =
    HasOtherPorts before.told c.function c.captures × HasOnlyAsked (reading c.function ∷ []) before now
IsRefused c before now (Text fault) =
    IsNoFunctionUnder before.told c.function fault × HasOnlyAsked (reading c.function ∷ []) before now
IsRefused c before now (NoKeys why) = ⊥
IsRefused c before now (NotCapture port) = HasNoCapture c before.told port × HasOnlyAsked (inputs_of c) before now

-- All was the same, and a front of the last state's text was printed.
pub record IsHalfPrinted (c : Replay) (before now : Outside) : Type 0 where
  pub function : Function
  pub state : State
  pub replayed : HasReplayed c before.told function (came.Same state)
  pub printed : PrintedFront before.told now.told 0 (state_text function state)

-- What is known once a capture is asked for: the text is a function with as many ports as there are
-- captures.
pub record KnowsPorts (c : Replay) (told : Told) : Type 0 where
  pub function : Function
  pub has_ports : HasPorts c told function

-- What is known where a capture failed: so it is, and where all captures were opened, those of lesser ports
-- have headers.
pub record KnowsLesser (c : Replay) (told now : Told) (port : ℕ) : Type 0 where
  pub ports : KnowsPorts c told
  pub lesser : told.next + 1 + length c.captures ≤ now.next → Below IsCapture told c.captures port

-- what is known once the journal is asked for: so it is, and all captures have headers
pub record KnowsHeaders (c : Replay) (told : Told) : Type 0 where
  pub ports : KnowsPorts c told
  pub captures : Below IsCapture told c.captures (length c.captures)

-- what is known once the last state is printed: all is the same
pub record KnowsSame (c : Replay) (told : Told) : Type 0 where
  pub function : Function
  pub state : State
  pub replayed : HasReplayed c told function (came.Same state)

-- what is known where a file failed
abbrev pub KnownAt : Replay → Told → Told → RunFile → Type 0
KnownAt c told now Nf = Unit {0}
KnownAt c told now (Capture port) = KnowsLesser c told now port
KnownAt c told now Journal = KnowsHeaders c told
KnownAt c told now (Output port) = KnowsHeaders c told
KnownAt c told now OutJournal = ⊥
KnownAt c told now LastState = ⊥
KnownAt c told now Proof = ⊥
KnownAt c told now Stdout = KnowsSame c told
KnownAt c told now Stderr = ⊥

abbrev pub IsKnown : Replay → Told → Told → CallFault → Type 0
IsKnown c told now (File file) = KnownAt c told now file
IsKnown c told now Memory = Unit {0}

-- What is known where so many names were asked for, whatever stopped the replay.
pub record IsDue (c : Replay) (told : Told) (names : ℕ) : Type 0 where
  pub ports : 1 < names → KnowsPorts c told
  pub headers : 1 + length c.captures < names → KnowsHeaders c told

-- A replay was stopped by the outside or for want of memory: no capture was asked for where the text is no
-- function of as many ports, and no journal where a capture has no header. No name has changed.
pub record IsStopped (c : Replay) (before now : Outside) (stop : CallFault) : Type 0 where
  pub contents : (n : List ℕ) → now.told.content n ≡ before.told.content n
  pub stdout : (now.told.given 0 ≡ before.told.given 0) ⊎ IsHalfPrinted c before now
  pub stderr : now.told.given 1 ≡ before.told.given 1
  pub stops : StopsBy (numbering before.told.next (length c.captures)) (asked_by c) before.counted now.counted stop
  pub known : IsKnown c before.told now.told stop
  pub due : IsDue c before.told (length stops.front)

-- what a replay comes to
abbrev pub ReplaysTo : Replay → Outside → Outside → Result ReplayEnd Halt → Type 0
ReplaysTo c before now (Ok checked) = IsChecked c before now checked
ReplaysTo c before now (Err (halts.Refusal why)) = IsRefused c before now why
ReplaysTo c before now (Err (halts.Stop stop)) = IsStopped c before now stop
