-- What is written is read.
use Rattle.std.specs.Prelude.{◌≡◌, ℕ, ◌≤◌, List, Some, length}
use Rattle.nf_base.specs.declared.card.TableSize.{TableSize}
use Rattle.certificate_laws.specs.declared.line.Line.{Line}
use Rattle.certificate_text.specs.declared.heading.Heading.{Heading}
use Rattle.certificate_text.specs.Pieces.{IsFree}
use Rattle.certificate_text.specs.Lines.{line_in, heading_in}
use Rattle.certificate_write.specs.Texts.{line_text, heading_text}
use Rattle.certificate_write.specs.Sayable.{IsSayable}

-- the text of a line is one line, and is read as that line
pub record IsReadBack (table : TableSize) (positions : List ℕ) (l : Line) : Type 0 where
  pub free : IsFree 10 (line_text l)
  pub read : line_in table positions (line_text l) ≡ Some l

abbrev pub LinesAreReadBack : Type 0
LinesAreReadBack =
    (table : TableSize) (positions : List ℕ) (l : Line) → length positions ≤ 4
    → IsSayable table positions l → IsReadBack table positions l

-- so is the first line
pub record IsHeadingReadBack (h : Heading) : Type 0 where
  pub free : IsFree 10 (heading_text h)
  pub read : heading_in (heading_text h) ≡ Some h

abbrev pub HeadingsAreReadBack : Type 0
HeadingsAreReadBack = (h : Heading) → IsHeadingReadBack h
