-- A function has one text of each kind.
use Rattle.std.proofs.Common.{◌≡◌, ℕ, List, ap, sym, ◌∙◌}
use Rattle.nf_base.specs.Text.{Function}
use Rattle.nf_base.specs.declared.card.Card.{Card}
use Rattle.command_words.specs.declared.command.Description.TheVariants.{Check, Explain, Keys}
use Rattle.shard_rules.specs.Served.{own_sites, own_plan}
use Rattle.key_synth.specs.declared.verdict.Verdict.{Verdict}
use Rattle.key_synth.specs.Verdicts.{IsVerdict}
use Rattle.key_synth.proofs.One.{verdicts_are_one}
use Rattle.verdict_text.specs.Verdict.{verdict_text, explained_whole}
use Rattle.describe_call.specs.Describing.{DescriptionsAreOne}

-- texts of two verdicts are equal
one_text : (f : Function) (card : Card) (said : Verdict → List ℕ) (verdict other : Verdict) (text another : List ℕ) → IsVerdict f card verdict → IsVerdict f card other → text ≡ said verdict → another ≡ said other → text ≡ another
one_text f card said verdict other text another first second is is_too =
    is ∙ ap said (verdicts_are_one f card verdict other first second) ∙ sym is_too

pub descriptions_are_one : DescriptionsAreOne
descriptions_are_one Check f card text other first second = first ∙ sym second
descriptions_are_one Explain f card text other first second = one_text f card (explained_whole f (own_sites f) (own_plan f)) first.verdict second.verdict text other first.is_verdict second.is_verdict first.said second.said
descriptions_are_one Keys f card text other first second = one_text f card (verdict_text f) first.verdict second.verdict text other first.is_verdict second.is_verdict first.said second.said
