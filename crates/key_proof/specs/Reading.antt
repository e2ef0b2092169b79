-- A certificate that is read line by line: what stands behind the lines that were read.
use Rattle.std.specs.Prelude.{◌≡◌, ℕ, ◌+◌, ◌≤◌, Bool, true, false, List, [], All, Option, Some, None, length, drop}
use Rattle.key_rows.specs.declared.place.Object.{Object}
use Rattle.certificate_laws.specs.declared.line.Named.{Named}
use Rattle.certificate_text.specs.declared.heading.Heading.{Heading}
use Rattle.certificate_text.specs.Pieces.{lines_of}
use Rattle.key_proof.specs.declared.reading.Cursor.{Cursor}
use Rattle.key_proof.specs.declared.reading.RowStep.{RowStep}
use Rattle.key_proof.specs.declared.reading.RowStep.TheVariants as step
use Rattle.key_proof.specs.declared.subject.Subject.{Subject}
use Rattle.key_proof.specs.Rows.{row_of, IsRowWithin}
use Rattle.key_proof.specs.Faults.{ports_of, line_here, key_in, rows_fault, proof_fault, keys_fault, judged_fault}

-- at most 4 ports, and 319 bits of the key of each
pub record IsSubject (s : Subject) : Type 0 where
  pub few : length s.positions ≤ 4
  pub low : All (λ n. n ≤ 319) s.positions

-- A line has a byte at least, its LF.
pub record IsCursor (text : List ℕ) (cursor : Cursor) : Type 0 where
  pub within : cursor.at ≤ length text
  pub number : cursor.number ≤ cursor.at + 1

-- the lines from a place on
abbrev pub rest_at : List ℕ → Cursor → List (List ℕ)
rest_at text cursor = lines_of (drop cursor.at text)

-- what a line says where a row may stand
abbrev pub step_of : RowStep → Option (Option (List ℕ))
step_of (step.Listed row) = Some (Some row)
step_of step.Wrong = Some None
step_of step.Other = None

abbrev pub IsStepWithin : ℕ → RowStep → Type 0
IsStepWithin ports (step.Listed row) = IsRowWithin ports row
IsStepWithin ports step.Wrong = Unit {0}
IsStepWithin ports step.Other = Unit {0}

-- a row that some line names
pub record IsRowHere (s : Subject) (row : List ℕ) : Type 0 where
  pub named : Named
  pub is : row_of (ports_of s) s.sites named ≡ Some row

-- a key that some line tells
pub record IsToldHere (s : Subject) (h : Heading) (key : List ℕ) : Type 0 where
  pub port : ℕ
  pub bytes : List ℕ
  pub is : key_in h.card.key port (line_here s h bytes) ≡ Some key

-- Rows were read from a place on; or one that a line names is none.
abbrev pub AreRowsRead : Subject → Heading → List ℕ → Cursor → Cursor → List (List ℕ) → Bool → Type 0
AreRowsRead s h text start cursor rows true =
    (objects : List Object) →
    rows_fault objects s h [] start.number (rest_at text start)
    ≡ proof_fault objects s h rows cursor.number (rest_at text cursor)
AreRowsRead s h text start cursor rows false =
    (objects : List Object) →
    rows_fault objects s h [] start.number (rest_at text start) ≡ Some cursor.number

-- Keys were read; or the next line isn't the next one.
abbrev pub AreKeysRead : Subject → Heading → List ℕ → Cursor → Cursor → List (List ℕ) → Bool → Type 0
AreKeysRead s h text start cursor keys true =
    (objects : List Object) (rows : List (List ℕ)) →
    keys_fault objects s h rows start.number [] (ports_of s) (rest_at text start)
    ≡ judged_fault objects s h rows cursor.number keys (rest_at text cursor)
AreKeysRead s h text start cursor keys false =
    (objects : List Object) (rows : List (List ℕ)) →
    keys_fault objects s h rows start.number [] (ports_of s) (rest_at text start)
    ≡ Some cursor.number
