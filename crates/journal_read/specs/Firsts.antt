-- What some bytes of a journal begin with.
use Rattle.std.specs.Prelude.{◌≡◌, ◌≢◌, ℕ, ◌<◌, ◌≤◌, List, [], ◌∷◌, ◌++◌, length, take, Option, Some, None}
use Rattle.run_history.specs.declared.line.JournalLine.{JournalLine}
use Rattle.run_history.specs.Line.{line_bytes}
use Rattle.run_history.specs.Lines.{IsLine}
use Rattle.run_history.specs.Reading.{IsFree}
use Rattle.journal_read.specs.Journals.{HasNoLine}
use Rattle.journal_read.specs.declared.first.First.{First}
use Rattle.journal_read.specs.declared.first.First.TheVariants.{Line, Wrong, Open}

-- bytes that end by LF, which stands nowhere else in them
pub record EndsOnce (bytes : List ℕ) : Type 0 where
  pub front : List ℕ
  pub free : IsFree 10 front
  pub ends : front ++ 10 ∷ [] ≡ bytes

-- how many bytes stand up to the first LF, with it; or there is none
abbrev pub IsLineEnd : List ℕ → Option ℕ → Type 0
IsLineEnd bytes None = IsFree 10 bytes
IsLineEnd bytes (Some end) = (end ≤ length bytes) × EndsOnce (take end bytes)

-- these bytes are this line; or they are none
abbrev pub IsOnlyLine : List ℕ → Option JournalLine → Type 0
IsOnlyLine bytes None = (line : JournalLine) → IsLine line → line_bytes line ≢ bytes
IsOnlyLine bytes (Some line) = IsLine line × (line_bytes line ≡ bytes)

-- bytes begin with no line, whatever follows them
abbrev pub IsNoFront : List ℕ → Type 0
IsNoFront bytes = (rest : List ℕ) → HasNoLine (bytes ++ rest)

-- what bytes begin with
abbrev pub IsFirst : List ℕ → First → Type 0
IsFirst bytes (Line line end) = IsLine line × (end ≤ length bytes) × (line_bytes line ≡ take end bytes)
IsFirst bytes Wrong = IsNoFront bytes × (0 < length bytes)
IsFirst bytes Open = IsFree 10 bytes × (length bytes < 512)
