-- The run that a command asks for, and how it ends.
use Rattle.std.specs.Prelude.{◌≡◌, ℕ, ◌+◌, ◌<◌, ◌≤◌, List, length, map, slice_get, Some, None}
use Rattle.nf_base.specs.Text.{Function}
use Rattle.nf_base.specs.declared.keys.Keys.{Keys}
use Rattle.nf_files.specs.Told.{Told}
use Rattle.packet_feed.specs.Arrivals.{Arrival}
use Rattle.packet_feed.specs.Told.{IsTear, IsCapture, IsNoCapture}
use Rattle.packet_feed.specs.Feeding.{AreAll, HasMore}
use Rattle.stream_run.specs.Runs.{Run, arrival_in}
use Rattle.stream_run.specs.Rules.{Rule, IsRunBy}
use Rattle.stream_run.specs.Lawful.{AreTheFirst}
use Rattle.stream_run.specs.Streaming.{AreFirst}
use Rattle.key_synth.specs.Keys.{AreGiven}
use Rattle.shard_core.specs.declared.collected.Stop.{Stop as ShareStop}
use Rattle.sharded_run.specs.Sharded.{IsStopBehind, AreBefore}
use Rattle.command_words.specs.Commands.{Run as RunAsked}
use Rattle.call_base.specs.declared.status.End.{End}
use Rattle.call_base.specs.declared.status.End.TheVariants.{Whole, Torn, TooMany, ShareFull}
use Rattle.call_base.specs.declared.status.FullShare.{FullShare}
use Rattle.call_base.specs.declared.status.NoKeys.{NoKeys}
use Rattle.call_base.specs.Source.{IsFunctionUnder}
use Rattle.call_base.specs.Named.{IsToldStop}
use Rattle.call_base.specs.Captures.{packets_under, Below}
use Rattle.call_base.specs.Rules.{HasKeys, IsRuleOf}
use Rattle.run_call.specs.Modes.{NeedsKeys, IsLocked}
use Rattle.run_history.specs.declared.line.Mode.TheVariants.{Shard}

-- The text is a network function that has as many ports as there are captures, and keys for the network
-- card that is asked for, where they are needed.
pub record HasPorts (c : RunAsked) (told : Told) (f : Function) : Type 0 where
  pub is_function : IsFunctionUnder told c.function f
  pub as_many : length c.captures ≡ length f.handlers
  pub keyed : NeedsKeys c → HasKeys f c.card

-- the packets of a run
abbrev pub packets : Run → List Arrival
packets run = map arrival_in run.turns

-- A run that a command asks for: its text and its captures are those that stood under their names. These
-- are its packets, handled by the rule that is due: the first of the captures, in capture order, at most
-- so many, and of a run by one worker all of these.
pub record IsRunOf (Refused : Type 0) (c : RunAsked) (told : Told) (arrivals : List Arrival) (run : Run) : Type 0 where
  pub has_ports : HasPorts c told run.function
  pub captures : Below IsCapture told c.captures (length c.captures)
  pub rule : Rule
  pub due : IsRuleOf Refused c.mode c.workers c.card run.function rule
  pub is_run : IsRunBy rule run.function c.card arrivals run
  pub within : length arrivals ≤ c.most
  pub first : AreFirst (packets_under run.function c.captures told) arrivals
  pub all : c.workers ≡ 1 → AreTheFirst c.most (packets_under run.function c.captures told) arrivals

-- The capture of a port is torn there, and that of each lower one is not, where they are told.
pub record IsLeastTear (told : Told) (names : List (List ℕ)) (port offset : ℕ) : Type 0 where
  pub name : List ℕ
  pub at : slice_get names port ≡ Some name
  pub torn : IsTear (told.content name) (Some (Some offset))
  pub lesser : Below (λ bytes. IsTear bytes (Some None)) told names port

-- Behind a run of several workers the next packet of the captures meets the share stop: its queue's
-- share of a chain, of this name, has no index left for it.
pub record IsFullBehind (c : RunAsked) (told : Told) (run : Run) (full : FullShare) : Type 0 where
  pub keys : Keys
  pub given : AreGiven run.function c.card keys
  pub stop : ShareStop
  pub behind : IsStopBehind run.function keys c.workers run stop
  pub next : AreBefore (packets_under run.function c.captures told) (packets run) stop.packet
  pub less : length run.turns < c.most
  pub said : IsToldStop run.function stop full

-- how a run of these packets ends: all packets were handled, and captures are torn or are not; or there
-- are more; or, of workers that share nothing, a share is full
abbrev pub IsEndOf : RunAsked → Told → List Arrival → Run → End → Type 0
IsEndOf c told arrivals run Whole =
    AreAll (packets_under run.function c.captures told) arrivals
    × Below (λ bytes. IsTear bytes (Some None)) told c.captures (length c.captures)
IsEndOf c told arrivals run (Torn port offset) =
    AreAll (packets_under run.function c.captures told) arrivals × IsLeastTear told c.captures port offset
IsEndOf c told arrivals run (TooMany most) =
    (most ≡ c.most) × (length arrivals ≡ most) × HasMore (packets_under run.function c.captures told) most
IsEndOf c told arrivals run (ShareFull full) = (run.mode ≡ Shard) × IsFullBehind c told run full

-- how many files a run of so many ports leaves: a share stop leaves no state
abbrev pub left_by : ℕ → End → ℕ
left_by ports Whole = ports + 2
left_by ports (Torn port offset) = ports + 2
left_by ports (TooMany most) = ports + 2
left_by ports (ShareFull full) = ports + 1

-- The captures are as many as the function's ports, and keys are needed and there are none.
pub record HasNoKeys (c : RunAsked) (told : Told) (why : NoKeys) : Type 0 where
  pub function : Function
  pub is_function : IsFunctionUnder told c.function function
  pub as_many : length c.captures ≡ length function.handlers
  pub needs : NeedsKeys c
  pub locked : IsLocked function c.card why

-- The captures are as many as the function's ports, and the file of this port is the first that is no
-- capture.
pub record HasNoCapture (c : RunAsked) (told : Told) (port : ℕ) : Type 0 where
  pub function : Function
  pub has_ports : HasPorts c told function
  pub name : List ℕ
  pub at : slice_get c.captures port ≡ Some name
  pub none : IsNoCapture (told.content name)
  pub lesser : Below IsCapture told c.captures port
