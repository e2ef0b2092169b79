-- Who handles the packets of a run that a command asks for.
use Rattle.std.specs.Prelude.{◌≡◌, ℕ, ◌<◌, ◌≤◌, Result, Ok, Err}
use Rattle.nf_base.specs.Text.{Function}
use Rattle.nf_base.specs.declared.card.Card.{Card}
use Rattle.command_words.specs.declared.command.ModeChoice.{ModeChoice}
use Rattle.command_words.specs.declared.command.ModeChoice.TheVariants.{Auto, Shard, Lock}
use Rattle.command_words.specs.Commands.{Run as RunAsked}
use Rattle.key_synth.specs.declared.verdict.Cause.{Cause}
use Rattle.key_synth.specs.declared.verdict.Verdict.TheVariants.{Locked}
use Rattle.key_synth.specs.Verdicts.{IsVerdict}
use Rattle.key_synth.specs.Keys.{AreGiven}
use Rattle.toeplitz_hash.specs.Meeting.{HashAlikeWhereTheyMeet}
use Rattle.run_call.specs.declared.worker_plan.WorkerPlan.{WorkerPlan}
use Rattle.run_call.specs.declared.worker_plan.WorkerPlan.TheVariants.{One, Shards, Tables}
use Rattle.call_base.specs.declared.status.NoKeys.{NoKeys}
use Rattle.call_base.specs.Named.{SaysCause}
use Rattle.call_base.specs.Rules.{HasKeys, MayShard, ShareTables}
use Rattle.call_base.specs.declared.status.Halt.{Halt}
use Rattle.call_base.specs.declared.status.Halt.TheVariants as halts
use Rattle.call_base.specs.declared.status.Refusal.{Refusal}
use Rattle.call_base.specs.declared.status.Refusal.TheVariants as refusals
use Rattle.call_base.specs.declared.status.CallFault.TheVariants as stops

-- keys are needed where mode `shard` is asked for
abbrev pub NeedsKeys : RunAsked → Type 0
NeedsKeys c = c.mode ≡ Shard

-- A function has no keys for a network card, for this cause.
pub record IsLocked (f : Function) (card : Card) (why : NoKeys) : Type 0 where
  pub cause : Cause
  pub locked : IsVerdict f card (Locked cause)
  pub says : SaysCause f cause why

-- The verdict is asked for: mode `shard` is, or several workers are in any mode.
abbrev pub AsksIn : ModeChoice → ℕ → Type 0
AsksIn Auto workers = 1 < workers
AsksIn Shard workers = Unit {0}
AsksIn Lock workers = ⊥

abbrev pub Asks : RunAsked → Type 0
Asks c = AsksIn c.mode c.workers

-- who handles the packets: one worker, or as many as are asked for, which share nothing, under the
-- function's keys for the network card that is asked for, or share the tables
abbrev pub IsWorkerPlan : RunAsked → Function → WorkerPlan → Type 0
IsWorkerPlan c f One = (c.workers ≡ 1) × (NeedsKeys c → HasKeys f c.card)
IsWorkerPlan c f (Shards keys) =
    ((1 < c.workers) × (c.workers ≤ 16)) × MayShard c.mode × AreGiven f c.card keys × HashAlikeWhereTheyMeet f keys
IsWorkerPlan c f Tables = (1 < c.workers) × ShareTables c.mode c.card f

-- why there is none
abbrev pub IsUnserved : RunAsked → Function → Refusal → Type 0
IsUnserved c f (refusals.NoKeys why) = NeedsKeys c × IsLocked f c.card why
IsUnserved c f refusals.Usage = ⊥
IsUnserved c f (refusals.Text fault) = ⊥
IsUnserved c f (refusals.NotCapture port) = ⊥

-- what a verdict comes to
abbrev pub ServesBy : RunAsked → Function → Result WorkerPlan Refusal → Type 0
ServesBy c f (Ok worker_plan) = IsWorkerPlan c f worker_plan
ServesBy c f (Err why) = IsUnserved c f why

-- what looking for it comes to; want of memory is free
abbrev pub Serves : RunAsked → Function → Result WorkerPlan Halt → Type 0
Serves c f (Ok worker_plan) = IsWorkerPlan c f worker_plan
Serves c f (Err (halts.Refusal why)) = IsUnserved c f why
Serves c f (Err (halts.Stop (stops.File file))) = ⊥
Serves c f (Err (halts.Stop stops.Memory)) = Unit {0}
