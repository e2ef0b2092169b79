-- Laws of journal lines.
use Rattle.std.specs.Prelude.{◌≡◌, ℕ, List, [], ◌∷◌, ◌++◌}
use Rattle.run_history.specs.declared.line.JournalLine.{JournalLine}
use Rattle.run_history.specs.Line.{line_bytes}
use Rattle.run_history.specs.Lines.{IsLine}
use Rattle.run_history.specs.Reading.{IsFree}

-- Two lines with the same bytes are one line.
abbrev pub LinesAreOne : Type 0
LinesAreOne = (a b : JournalLine) → IsLine a → IsLine b → line_bytes a ≡ line_bytes b → a ≡ b

-- A line ends by LF, which stands nowhere else in it.
pub record EndsByLf (line : JournalLine) : Type 0 where
  pub front : List ℕ
  pub free : IsFree 10 front
  pub ends : line_bytes line ≡ front ++ 10 ∷ []

abbrev pub LinesEndByLf : Type 0
LinesEndByLf = (line : JournalLine) → IsLine line → EndsByLf line
