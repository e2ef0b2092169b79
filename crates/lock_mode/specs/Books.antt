-- The rule of the history's book, and what its steps tell.
use Rattle.std.specs.Prelude.{ℕ, ◌≡◌, ◌==◌, ◌<◌, true, List, [], ◌∷◌, ◌++◌, length, MatchBool}
use mathlib.Core.List.{IsPrefix}
use Rattle.logbook.specs.Pages.{Cell, Step, View, Book, Named}
use Rattle.lock_core.specs.declared.call.Entry.{Entry}
use Rattle.lock_core.specs.Calls.{count_of}
use Rattle.lock_core.specs.Histories.{AreNumbered}

-- The first word is the length of the history, whose entries are numbered. A book has two words, of
-- which this one leaves the second at 0.
pub record IsKept (cells : List Cell) (log : List Entry) : Type 0 where
  pub words : cells ≡ (length log, true) ∷ (0, true) ∷ []
  pub numbered : AreNumbered log

-- the first word of a book
abbrev pub head_of : Book → Named
head_of b = record { tracked = true; key = 0; book = b }

-- an entry has the number that comes next at its seat
abbrev pub MayFollow : List Entry → Entry → Type 0
MayFollow log e = e.number ≡ count_of e.seat log

-- a history begins with another, and goes on
abbrev pub IsLonger : List Entry → List Entry → Type 0
IsLonger xs ys = IsPrefix xs ys × (length xs < length ys)

-- the entry was added to all that had been seen; or the history was longer, and was seen
abbrev pub Adds : Step Entry → View Entry ℕ → ℕ → View Entry ℕ → Type 0
Adds s v found w = MatchBool (found == s.old)
    ((w.0 ≡ v.0 ++ s.ask ∷ []) × AreNumbered w.0)
    ((length w.0 ≡ found) × AreNumbered w.0)
