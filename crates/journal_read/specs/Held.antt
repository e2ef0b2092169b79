-- The bytes that are held of a journal.
use Rattle.std.specs.Prelude.{◌≡◌, ℕ, ◌<◌, Bool, true, false, List, [], ◌++◌, length, Option, Result, Ok, Err}
use Rattle.nf_files.specs.Told.{IsEmptyIfTold}
use Rattle.nf_files.specs.Pieces.{Takes}
use Rattle.run_history.specs.Line.{line_bytes}
use Rattle.run_history.specs.Lines.{IsLine}
use Rattle.run_history.specs.Reading.{IsFree}
use Rattle.journal_read.specs.declared.next.Next.{Next}
use Rattle.journal_read.specs.declared.next.Next.TheVariants as next
use Rattle.journal_read.specs.declared.journal.Advance.{Advance}
use Rattle.journal_read.specs.declared.journal.Advance.TheVariants.{Line, Wrong, Open}
use Rattle.journal_read.specs.Firsts.{IsNoFront}

-- the first line was taken off the bytes that are held; or they have none, or not yet
abbrev pub Advances : List ℕ → List ℕ → Advance → Type 0
Advances old new (Line line) = IsLine line × (old ≡ line_bytes line ++ new)
Advances old new Wrong = IsNoFront old × (0 < length old)
Advances old new Open = (new ≡ old) × IsFree 10 old × (length old < 512)

-- more bytes are held
pub record Grows (old new : List ℕ) (before now : Option (List ℕ)) : Type 0 where
  pub more : List ℕ
  pub grown : new ≡ old ++ more
  pub taken : Takes more before now

-- more bytes are held, or nothing was left of the file
abbrev pub Fills : {E : Type 0} → List ℕ → List ℕ → Option (List ℕ) → Option (List ℕ) → Result Bool E → Type 0
Fills old new before now (Ok true) = Grows old new before now × (length old < length new)
Fills old new before now (Ok false) = (new ≡ old) × IsEmptyIfTold before
Fills old new before now (Err e) = Unit {0}

-- what bytes are at the end of which no line is
abbrev pub IsEnd : List ℕ → Next → Type 0
IsEnd held (next.Line line) = ⊥
IsEnd held next.Wrong = 0 < length held
IsEnd held next.End = held ≡ []
