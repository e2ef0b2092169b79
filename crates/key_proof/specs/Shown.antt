-- What a certificate of a function shows.
use Rattle.std.specs.Prelude.{◌≡◌, ℕ, List, Option, Some, None}
use Rattle.nf_base.specs.declared.card.Card.{Card}
use Rattle.nf_base.specs.declared.keys.Keys.{Keys}
use Rattle.nf_base.specs.Text.{Function}
use Rattle.key_synth.specs.declared.verdict.Verdict.{Verdict}
use Rattle.key_synth.specs.Keys.{AreGiven, NoneMayBeGiven}
use Rattle.key_synth.specs.Verdicts.{IsVerdict}
use Rattle.certificate_text.specs.declared.heading.Heading.{Heading}
use Rattle.certificate_text.specs.declared.heading.Kind.{Kind}
use Rattle.certificate_text.specs.declared.heading.Kind.TheVariants.{Sharded, Locked}
use Rattle.certificate_text.specs.Pieces.{lines_of}
use Rattle.key_proof.specs.declared.finding.Finding.{Finding}
use Rattle.key_proof.specs.declared.finding.Finding.TheVariants as found
use Rattle.key_proof.specs.declared.certifying.CertifyFault.{CertifyFault}
use Rattle.key_proof.specs.declared.certifying.CertifyFault.TheVariants.{Fails, Memory}
use Rattle.key_proof.specs.Faults.{heading_of, first_wrong, card_of}

-- some keys are the given ones; or there are none
abbrev pub IsShown : Kind → Function → Card → Type 0
IsShown Sharded f card = (keys : Keys) × AreGiven f card keys
IsShown Locked f card = NoneMayBeGiven f card

-- So it is for the card that the first line tells, and as that line says.
pub record IsCertificate (f : Function) (text : List ℕ) : Type 0 where
  pub heading : Heading
  pub first : heading_of (lines_of text) ≡ Some heading
  pub shown : IsShown heading.kind f heading.card

-- so where no line of a text is wrong
abbrev pub NothingWrongShows : Type 0
NothingWrongShows = (f : Function) (text : List ℕ) → first_wrong f text ≡ None → IsCertificate f text

-- the given keys for the card that a text tells
pub record AreShownGiven (f : Function) (text : List ℕ) (keys : Keys) : Type 0 where
  pub card : Card
  pub card_told : card_of text ≡ Some card
  pub given : AreGiven f card keys

-- there are none for that card
pub record IsShownWithout (f : Function) (text : List ℕ) : Type 0 where
  pub card : Card
  pub card_told : card_of text ≡ Some card
  pub none : NoneMayBeGiven f card

-- what a text shows by what reading it came to
abbrev pub Shows : Function → List ℕ → Finding → Type 0
Shows f text (found.Wrong n) = Unit {0}
Shows f text (found.Told keys) = AreShownGiven f text keys
Shows f text found.NoKeys = IsShownWithout f text

-- No line of a text is wrong, and this is the verdict for the card that it tells.
pub record IsCertified (f : Function) (text : List ℕ) (verdict : Verdict) : Type 0 where
  pub none_wrong : first_wrong f text ≡ None
  pub card : Card
  pub card_told : card_of text ≡ Some card
  pub verdict_is : IsVerdict f card verdict

-- a line is the first wrong one; want of memory is free
abbrev pub IsFailedBy : Function → List ℕ → CertifyFault → Type 0
IsFailedBy f text (Fails line) = first_wrong f text ≡ Some line
IsFailedBy f text Memory = Unit {0}
