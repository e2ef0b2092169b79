-- By which rule the packets of a command's run are handled.
use Rattle.std.specs.Prelude.{◌≡◌, ◌<◌, ℕ}
use Rattle.nf_base.specs.Text.{Function}
use Rattle.nf_base.specs.declared.card.Card.{Card}
use Rattle.nf_base.specs.declared.keys.Keys.{Keys}
use Rattle.key_synth.specs.declared.verdict.Cause.{Cause}
use Rattle.key_synth.specs.declared.verdict.Verdict.TheVariants.{Locked}
use Rattle.key_synth.specs.Verdicts.{IsVerdict}
use Rattle.key_synth.specs.Keys.{AreGiven}
use Rattle.stream_run.specs.Rules.{Rule, one_rule, lone_rule, shard_rule, lock_rule}
use Rattle.command_words.specs.declared.command.ModeChoice.{ModeChoice}
use Rattle.command_words.specs.declared.command.ModeChoice.TheVariants.{Auto, Shard, Lock}

-- a function has keys for a network card
pub record HasKeys (f : Function) (card : Card) : Type 0 where
  pub keys : Keys
  pub given : AreGiven f card keys

-- a function has no keys for a network card
pub record IsKeyless (f : Function) (card : Card) : Type 0 where
  pub cause : Cause
  pub locked : IsVerdict f card (Locked cause)

-- Several workers may share nothing: mode `shard` is asked for, or any.
abbrev pub MayShard : ModeChoice → Type 0
MayShard Auto = Unit {0}
MayShard Shard = Unit {0}
MayShard Lock = ⊥

-- Several workers share the tables: mode `lock` is asked for, or any, and the function has no keys.
abbrev pub ShareTables : ModeChoice → Card → Function → Type 0
ShareTables Auto card f = IsKeyless f card
ShareTables Shard card f = ⊥
ShareTables Lock card f = Unit {0}

-- One worker's; or that of as many as are asked for, which share nothing, under the function's keys for the
-- network card that is asked for, or share the tables; where the gate to these refused, that of one worker
-- for them all.
pub data IsRuleOf (Refused : Type 0) (mode : ModeChoice) (workers : ℕ) (card : Card) (f : Function) (rule : Rule) : Type 0 where
  by_one : workers ≡ 1 → rule ≡ one_rule → IsRuleOf Refused mode workers card f rule
  by_shards : (keys : Keys) → 1 < workers → MayShard mode → AreGiven f card keys → rule ≡ shard_rule keys workers → IsRuleOf Refused mode workers card f rule
  by_tables : 1 < workers → ShareTables mode card f → rule ≡ lock_rule workers → IsRuleOf Refused mode workers card f rule
  by_none : 1 < workers → ShareTables mode card f → Refused → rule ≡ lone_rule workers → IsRuleOf Refused mode workers card f rule
