-- A journal that is read line by line: the lines that were read, and what follows them.
use Rattle.std.specs.Prelude.{◌≡◌, ◌≢◌, ℕ, Bool, true, false, List, [], ◌∷◌, ◌++◌, Option, Some, None, Result, Ok, Err}
use Rattle.std.specs.List.{flat_map}
use Rattle.nf_files.specs.Pieces.{Takes}
use Rattle.run_history.specs.declared.line.JournalLine.{JournalLine}
use Rattle.run_history.specs.declared.line.JournalLine.TheVariants as line
use Rattle.run_history.specs.Headings.{Heading, IsHeading}
use Rattle.run_history.specs.Line.{line_bytes}
use Rattle.run_history.specs.Lines.{IsLine}
use Rattle.journal_read.specs.declared.next.Next.{Next}
use Rattle.journal_read.specs.declared.next.Next.TheVariants.{Line, Wrong, End}

-- a file, and the bytes of it that were read and of which no line was given yet
pub record Reading : Type 0 where
  pub file : ℕ
  pub held : List ℕ

-- the bytes of lines
abbrev pub lines_bytes : List JournalLine → List ℕ
lines_bytes lines = flat_map line_bytes lines

-- Since a start these lines were given, where the file's bytes are told.
abbrev pub Stands : Option (List ℕ) → List JournalLine → Reading → Option (List ℕ) → Type 0
Stands start lines v now = Takes (lines_bytes lines ++ v.held) start now

-- bytes don't begin with a line
abbrev pub HasNoLine : List ℕ → Type 0
HasNoLine bytes = (line : JournalLine) (later : List ℕ) → IsLine line → line_bytes line ++ later ≢ bytes

-- Behind these lines stands more in a journal, where it is told, and it begins with no line.
pub record IsWrongBehind (lines : List JournalLine) (all : List ℕ) : Type 0 where
  pub rest : List ℕ
  pub behind : all ≡ lines_bytes lines ++ rest
  pub some : rest ≢ []
  pub none : HasNoLine rest

abbrev pub IsWrong : Option (List ℕ) → List JournalLine → Type 0
IsWrong None lines = Unit {0}
IsWrong (Some all) lines = IsWrongBehind lines all

-- a journal, where it is told, has these lines alone
abbrev pub AreAllLines : Option (List ℕ) → List JournalLine → Type 0
AreAllLines None lines = Unit {0}
AreAllLines (Some all) lines = all ≡ lines_bytes lines

-- Behind these lines stands more in a journal, where it is told.
pub record IsLonger (lines : List JournalLine) (all : List ℕ) : Type 0 where
  pub rest : List ℕ
  pub behind : all ≡ lines_bytes lines ++ rest
  pub some : rest ≢ []

abbrev pub AreMoreLines : Option (List ℕ) → List JournalLine → Type 0
AreMoreLines None lines = Unit {0}
AreMoreLines (Some all) lines = IsLonger lines all

-- what comes next of a journal
abbrev pub Gives : {E : Type 0} → Option (List ℕ) → List JournalLine → Reading → Option (List ℕ) → Result Next E → Type 0
Gives start lines v now (Ok (Line line)) = IsLine line × Stands start (lines ++ line ∷ []) v now
Gives start lines v now (Ok Wrong) = IsWrong start lines
Gives start lines v now (Ok End) = AreAllLines start lines
Gives start lines v now (Err e) = Unit {0}

-- whether no byte is left of a journal
abbrev pub IsOver : {E : Type 0} → Option (List ℕ) → List JournalLine → Result Bool E → Type 0
IsOver start lines (Ok true) = AreAllLines start lines
IsOver start lines (Ok false) = AreMoreLines start lines
IsOver start lines (Err e) = Unit {0}

-- a header that came next; another line is none
abbrev pub IsHeader : Next → Option Heading → Type 0
IsHeader (Line (line.Header heading)) result = result ≡ Some heading
IsHeader (Line (line.Packet id worker action picks)) result = result ≡ None
IsHeader Wrong result = result ≡ None
IsHeader End result = result ≡ None

-- bytes, where they are told, don't begin with a header
abbrev pub HasNoHeader : Option (List ℕ) → Type 0
HasNoHeader None = Unit {0}
HasNoHeader (Some all) = (heading : Heading) (later : List ℕ) → IsHeading heading → line_bytes (line.Header heading) ++ later ≢ all

-- the first line of a journal
abbrev pub Heads : {E : Type 0} → Option (List ℕ) → Reading → Option (List ℕ) → Result (Option Heading) E → Type 0
Heads start v now (Ok None) = HasNoHeader start
Heads start v now (Ok (Some heading)) = IsHeading heading × Stands start (line.Header heading ∷ []) v now
Heads start v now (Err e) = Unit {0}
