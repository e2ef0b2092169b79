-- What looking for who handles the packets comes to.
use Rattle.std.specs.Prelude.{◌≡◌, Result, Ok, Err}
use Rattle.nf_base.specs.Text.{Function}
use Rattle.nf_base.specs.declared.card.Card.{Card}
use Rattle.key_synth.specs.Verdicts.{IsVerdict}
use Rattle.key_synth.specs.declared.verdict.Cause.{Cause}
use Rattle.key_synth.specs.declared.verdict.Verdict.TheVariants.{Locked}
use Rattle.command_words.specs.Commands.{Gen}
use Rattle.command_words.specs.declared.command.ModeChoice.TheVariants.{Shard}
use Rattle.traffic_run.specs.declared.worker_plan.WorkerPlan.{WorkerPlan}
use Rattle.traffic_run.specs.Runs.{Serves as MayServe}
use Rattle.call_base.specs.declared.status.NoKeys.{NoKeys as Why}
use Rattle.call_base.specs.declared.status.Halt.{Halt}
use Rattle.call_base.specs.declared.status.Halt.TheVariants as halts
use Rattle.call_base.specs.declared.status.Refusal.{Refusal}
use Rattle.call_base.specs.declared.status.Refusal.TheVariants as refusals
use Rattle.call_base.specs.declared.status.CallFault.TheVariants as stops
use Rattle.call_base.specs.Named.{SaysCause}
use Rattle.gen_call.specs.Runs.{IsWorkerPlan}

-- a function has no keys for a network card, for this cause
pub record IsLocked (f : Function) (card : Card) (why : Why) : Type 0 where
  pub cause : Cause
  pub locked : IsVerdict f card (Locked cause)
  pub says : SaysCause f cause why

-- why there is none
abbrev pub IsUnserved : Gen → Function → Refusal → Type 0
IsUnserved c f (refusals.NoKeys why) = (c.mode ≡ Shard) × IsLocked f c.card why
IsUnserved c f refusals.Usage = ⊥
IsUnserved c f (refusals.Text fault) = ⊥
IsUnserved c f (refusals.NotCapture port) = ⊥

-- what a verdict comes to
abbrev pub ServesBy : Gen → Function → Result WorkerPlan Refusal → Type 0
ServesBy c f (Ok worker_plan) = IsWorkerPlan c f worker_plan × MayServe f worker_plan
ServesBy c f (Err why) = IsUnserved c f why

-- what looking for it comes to; want of memory is free
abbrev pub Serves : Gen → Function → Result WorkerPlan Halt → Type 0
Serves c f (Ok worker_plan) = IsWorkerPlan c f worker_plan × MayServe f worker_plan
Serves c f (Err (halts.Refusal why)) = IsUnserved c f why
Serves c f (Err (halts.Stop (stops.File file))) = ⊥
Serves c f (Err (halts.Stop stops.Memory)) = Unit {0}
