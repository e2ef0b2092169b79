-- What a certificate of a verdict shows.
use Rattle.std.proofs.Common.{◌≡◌, ℕ, List, ap, sym, subst, ◌∙◌}
use Rattle.std.proofs.lemmas.Option.{none-some, same_Some}
use Rattle.nf_base.specs.Text.{Function}
use Rattle.nf_base.specs.declared.card.Card.{Card}
use Rattle.key_synth.specs.declared.verdict.Verdict.{Verdict}
use Rattle.key_synth.specs.Verdicts.{IsVerdict}
use Rattle.key_synth.proofs.One.{verdicts_are_one}
use Rattle.key_proof.specs.Shown.{IsCertified}
use Rattle.key_proof.specs.Faults.{card_in}
use Rattle.key_certificate.specs.Plain.{IsRightText, heading_for}
use Rattle.prove_call.specs.Texts.{CertificatesShowTheirVerdicts}

-- the card that the first line tells is the one that the keys are for
same_card : (f : Function) (card : Card) (verdict shown : Verdict) (text : List ℕ) → IsRightText f (heading_for card verdict) text → (k : IsCertified f text shown) → k.card ≡ card
same_card f card verdict shown text right k = same_Some k.card card (sym k.card_told ∙ ap card_in right.first)

one_shown : (f : Function) (card : Card) (verdict shown : Verdict) (text : List ℕ) → IsVerdict f card verdict → IsRightText f (heading_for card verdict) text → IsCertified f text shown → shown ≡ verdict
one_shown f card verdict shown text is right k =
    verdicts_are_one f card shown verdict (subst (λ (c : Card). IsVerdict f c shown) (same_card f card verdict shown text right k) k.verdict_is) is

pub certificates_show_their_verdicts : CertificatesShowTheirVerdicts
certificates_show_their_verdicts f card verdict text is right = record {
  none_fails = λ line fails. none-some line (sym right.none ∙ fails);
  shows = λ shown k. one_shown f card verdict shown text is right k;
}
