-- The text of a verdict, which ends the text of `explain`.
use Rattle.std.specs.Prelude.{ℕ, ◌+◌, List, [], ◌∷◌, ◌++◌, codes, decimal}
use Rattle.hex.specs.Hex.{encode_lower}
use Rattle.nf_base.specs.Text.{Function}
use Rattle.access_keys.specs.declared.site.Site.{Site}
use Rattle.shard_rules.specs.declared.plan.Plan.{Plan}
use Rattle.shard_rules.specs.Rules.{rule_word}
use Rattle.key_synth.specs.declared.verdict.Cause.{Cause}
use Rattle.key_synth.specs.declared.verdict.Cause.TheVariants as cause
use Rattle.key_synth.specs.declared.verdict.Verdict.{Verdict}
use Rattle.key_synth.specs.declared.verdict.Verdict.TheVariants.{Sharded, Locked}
use Rattle.nf_base.specs.Names.{object_name}
use Rattle.verdict_text.specs.Objects.{explained}

-- the line of a port's key: 80 or 104 hexadecimal digits
abbrev pub key_text : ℕ → List ℕ → List ℕ
key_text port key =
    codes "key " ++ decimal port ++ codes " " ++ encode_lower key ++ codes "\n"

-- those of the ports from one on
abbrev pub keys_text : ℕ → List (List ℕ) → List ℕ
keys_text port [] = []
keys_text port (key ∷ keys) = key_text port key ++ keys_text (port + 1) keys

-- why there are no keys
abbrev pub cause_text : Function → Cause → List ℕ
cause_text f (cause.Object o rule) = object_name f o ++ codes " " ++ rule_word rule
cause_text f cause.Hash = codes "hash"

-- the text of a verdict
abbrev pub verdict_text : Function → Verdict → List ℕ
verdict_text f (Sharded keys) = codes "sharded\n" ++ keys_text 0 keys.ports
verdict_text f (Locked cause) = codes "locked " ++ cause_text f cause ++ codes "\n"

-- the whole text of `explain`
abbrev pub explained_whole : Function → List Site → Plan → Verdict → List ℕ
explained_whole f sites plan verdict = explained f sites plan ++ verdict_text f verdict
