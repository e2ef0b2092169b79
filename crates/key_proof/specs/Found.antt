-- What reading a certificate comes to.
use Rattle.std.specs.Prelude.{◌≡◌, ℕ, List, All, length, Option, Some, None}
use Rattle.nf_base.specs.declared.keys.Keys.{Keys}
use Rattle.key_rows.specs.declared.place.Object.{Object}
use Rattle.certificate_text.specs.declared.heading.Heading.{Heading}
use Rattle.certificate_text.specs.declared.heading.Kind.TheVariants.{Locked}
use Rattle.key_proof.specs.declared.finding.Finding.{Finding}
use Rattle.key_proof.specs.declared.finding.Finding.TheVariants.{Wrong, Told, NoKeys}
use Rattle.key_proof.specs.declared.subject.Subject.{Subject}
use Rattle.key_proof.specs.Faults.{ports_of, keys_with, judged_fault}
use Rattle.key_proof.specs.Reading.{IsRowHere, IsToldHere}

-- the first wrong line
abbrev pub fault_found : Finding → Option ℕ
fault_found (Wrong n) = Some n
fault_found (Told keys) = None
fault_found NoKeys = None

-- keys that lines tell, behind which no line is wrong
pub record AreTold (objects : List Object) (s : Subject) (h : Heading) (rows : List (List ℕ))
    (keys : Keys) : Type 0 where
  pub with : keys ≡ keys_with h keys.ports
  pub told : All (IsToldHere s h) keys.ports
  pub long : length keys.ports ≡ ports_of s
  pub number : ℕ
  pub lines : List (List ℕ)
  pub none : judged_fault objects s h rows number keys.ports lines ≡ None

-- what stands behind rows
abbrev pub FindsBehind : List Object → Subject → Heading → List (List ℕ) → Finding → Type 0
FindsBehind objects s h rows (Wrong n) = Unit {0}
FindsBehind objects s h rows (Told keys) = AreTold objects s h rows keys
FindsBehind objects s h rows NoKeys = h.kind ≡ Locked

-- so behind rows that lines name
pub record AreToldBehind (objects : List Object) (s : Subject) (h : Heading) (keys : Keys)
    : Type 0 where
  pub rows : List (List ℕ)
  pub named : All (IsRowHere s) rows
  pub keys_told : AreTold objects s h rows keys

-- what stands behind the first line
abbrev pub Finds : List Object → Subject → Heading → Finding → Type 0
Finds objects s h (Wrong n) = Unit {0}
Finds objects s h (Told keys) = AreToldBehind objects s h keys
Finds objects s h NoKeys = h.kind ≡ Locked
