-- The certificate of a verdict on a function, and what is printed of that verdict.
use Rattle.std.specs.Prelude.{◌≡◌, ◌≢◌, ℕ, List, Some}
use Rattle.nf_base.specs.Text.{Function}
use Rattle.nf_base.specs.declared.card.Card.{Card}
use Rattle.key_synth.specs.declared.verdict.Verdict.{Verdict}
use Rattle.key_synth.specs.Verdicts.{IsVerdict}
use Rattle.verdict_text.specs.Verdict.{verdict_text}
use Rattle.key_proof.specs.Faults.{first_wrong}
use Rattle.key_proof.specs.Shown.{IsCertified}
use Rattle.key_certificate.specs.Plain.{IsRightText, heading_for}

-- No line of a text is wrong for a function, and the first one tells this card, and whether the verdict
-- gives keys.
abbrev pub IsCertificateOf : Function → Card → Verdict → List ℕ → Type 0
IsCertificateOf f card verdict text = IsRightText f (heading_for card verdict) text

-- what is written and what is printed of the verdict on a function for a network card
pub record AreTexts (f : Function) (card : Card) (certificate printed : List ℕ) : Type 0 where
  pub verdict : Verdict
  pub is_verdict : IsVerdict f card verdict
  pub is_certificate : IsCertificateOf f card verdict certificate
  pub said : printed ≡ verdict_text f verdict

-- No line of a text is the first wrong one, and what it shows of a function is this verdict alone.
pub record ShowsAlone (f : Function) (verdict : Verdict) (text : List ℕ) : Type 0 where
  pub none_fails : (line : ℕ) → first_wrong f text ≢ Some line
  pub shows : (shown : Verdict) → IsCertified f text shown → shown ≡ verdict

-- so it is of a certificate of a verdict
abbrev pub CertificatesShowTheirVerdicts : Type 0
CertificatesShowTheirVerdicts =
    (f : Function) (card : Card) (verdict : Verdict) (text : List ℕ) → IsVerdict f card verdict →
    IsRightText f (heading_for card verdict) text → ShowsAlone f verdict text
