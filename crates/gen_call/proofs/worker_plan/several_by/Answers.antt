use Rattle.std.proofs.Common.{◌≡◌, ◌≢◌, refl, subst, arith}
use Rattle.nf_base.specs.Functions.{function_of}
use Rattle.nf_base.specs.Text.{Function}
use Rattle.nf_base.specs.declared.card.Card.{Card}
use Rattle.key_synth.specs.declared.verdict.Cause.{Cause}
use Rattle.key_synth.specs.declared.verdict.Verdict.TheVariants.{Locked}
use Rattle.key_synth.specs.Verdicts.{IsVerdict, Separates}
use Rattle.command_words.specs.declared.command.ModeChoice.{ModeChoice}
use Rattle.command_words.specs.declared.command.ModeChoice.TheVariants as choice
use Rattle.call_base.specs.Rules.{MayShard, ShareTables}
use Rattle.gen_call.proofs.worker_plan.several_by.Goals as goal

may_shard : (mode : ModeChoice) → mode ≢ choice.Lock → MayShard mode
may_shard choice.Auto other = tt
may_shard choice.Shard other = tt
may_shard choice.Lock other = absurd (other refl)

may_share : (mode : ModeChoice) (card : Card) (f : Function) (cause : Cause) → (mode ≡ choice.Shard → ⊥) → IsVerdict f card (Locked cause) → ShareTables mode card f
may_share choice.Lock card f cause other locked = tt
may_share choice.Auto card f cause other locked = record { cause = cause; locked = locked }
may_share choice.Shard card f cause other locked = absurd (other refl)

pub returns-in-Sharded : goal.returns-in-Sharded
returns-in-Sharded c =
    let f = function_of c.args.func.now in
    let given = subst (IsVerdict f c.args.command.now.card) c.in-Sharded.is c.requires.verdict in
    record {
      serves = (
        (refl, c.requires.several, may_shard c.args.command.now.mode c.requires.unlocked, given),
        ((c.requires.several, c.requires.few), (omega (arith, given.may.count), subst (Separates f) c.in-Sharded.is c.requires.separates)),
      );
    }

pub returns-in_default : goal.returns-in_default
returns-in_default c =
    let f = function_of c.args.func.now in
    record {
      serves = (
        (refl, c.requires.several, may_share c.args.command.now.mode c.args.command.now.card f c.in-Locked.cause c.in_default.not-Shard (subst (IsVerdict f c.args.command.now.card) c.in-Locked.is c.requires.verdict)),
        (c.requires.several, c.requires.few),
      );
    }
