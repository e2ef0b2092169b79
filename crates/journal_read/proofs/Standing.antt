-- The lines that were read of a journal, and what follows them.
use Rattle.std.proofs.Common.{◌≡◌, ◌≢◌, ℕ, ◌<◌, List, [], ◌∷◌, ◌++◌, length, Bool, true, false, not, Option, Some, None, Ok, refl, sym, ap, ◌∙◌, subst, append_assoc, append-nil, length-append, arith}
use Rattle.nf_files.specs.Told.{IsEmptyIfTold}
use Rattle.nf_files.specs.Pieces.{Takes}
use Rattle.run_history.specs.declared.line.JournalLine.{JournalLine}
use Rattle.run_history.specs.declared.line.JournalLine.TheVariants as kind
use Rattle.run_history.specs.Headings.{Heading, IsHeading}
use Rattle.run_history.specs.Lines.{IsLine}
use Rattle.run_history.specs.Line.{line_bytes}
use Rattle.run_history.specs.Reading.{IsFree}
use Rattle.file_match.proofs.Comparing.{takes_both}
use Rattle.journal_read.specs.Journals.{Reading, Gives, IsOver, IsHeader, Heads, lines_bytes, HasNoLine, IsWrong, AreAllLines, AreMoreLines}
use Rattle.journal_read.specs.Firsts.{IsNoFront}
use Rattle.journal_read.specs.Held.{Grows, Fills, IsEnd}
use Rattle.journal_read.specs.declared.next.Next.{Next}
use Rattle.journal_read.specs.declared.next.Next.TheVariants.{Line, Wrong, End}
use Rattle.journal_read.proofs.Firsts.{free_no_line, same_line, line_some}

-- one line more
pub bytes_more : (lines : List JournalLine) (line : JournalLine) → lines_bytes (lines ++ line ∷ []) ≡ lines_bytes lines ++ line_bytes line
bytes_more [] line = append-nil (line_bytes line)
bytes_more (l ∷ lines) line = ap (λ (t : List ℕ). line_bytes l ++ t) (bytes_more lines line) ∙ sym (append_assoc (line_bytes l) (lines_bytes lines) (line_bytes line))

-- more bytes are held
pub stands_grown : (front old new : List ℕ) (start before now : Option (List ℕ)) → Takes (front ++ old) start before → Grows old new before now → Takes (front ++ new) start now
stands_grown front old new start before now t g =
    subst (λ (bytes : List ℕ). Takes bytes start now) (append_assoc front old g.more ∙ ap (λ (l : List ℕ). front ++ l) (sym g.grown)) (takes_both (front ++ old) g.more start before now t g.taken)

-- a line was taken off the bytes that are held
pub stands_line : (lines : List JournalLine) (line : JournalLine) (held new : List ℕ) (start now : Option (List ℕ)) → Takes (lines_bytes lines ++ held) start now → held ≡ line_bytes line ++ new → Takes (lines_bytes (lines ++ line ∷ []) ++ new) start now
stands_line lines line held new start now t e =
    subst (λ (bytes : List ℕ). Takes bytes start now)
    (ap (λ (l : List ℕ). lines_bytes lines ++ l) e ∙ sym (append_assoc (lines_bytes lines) (line_bytes line) new) ∙ ap (λ (l : List ℕ). l ++ new) (sym (bytes_more lines line)))
    t

some_bytes : (bytes rest : List ℕ) → 0 < length bytes → bytes ++ rest ≢ []
some_bytes bytes rest some e = absurd (omega (arith, ap (λ (t : List ℕ). length t) e, length-append bytes rest))

-- what is held begins with no line
pub wrong_held : (lines : List JournalLine) (held : List ℕ) (start now : Option (List ℕ)) → Takes (lines_bytes lines ++ held) start now → IsNoFront held → 0 < length held → IsWrong start lines
wrong_held lines held None now t none some = tt
wrong_held lines held (Some a) None t none some = absurd t
wrong_held lines held (Some a) (Some b) t none some = record { rest = held ++ b; behind = t ∙ append_assoc (lines_bytes lines) held b; some = some_bytes held b some; none = none b }

-- what is held has no LF, and nothing follows it
pub wrong_end : (lines : List JournalLine) (held : List ℕ) (start now : Option (List ℕ)) → Takes (lines_bytes lines ++ held) start now → IsFree 10 held → 0 < length held → IsEmptyIfTold now → IsWrong start lines
wrong_end lines held None now t free some last = tt
wrong_end lines held (Some a) None t free some last = absurd t
wrong_end lines held (Some a) (Some b) t free some last =
    let is : held ++ b ≡ held = ap (λ (l : List ℕ). held ++ l) last ∙ append-nil held in
    record { rest = held ++ b; behind = t ∙ append_assoc (lines_bytes lines) held b; some = some_bytes held b some; none = subst HasNoLine (sym is) (free_no_line held free) }

-- nothing is held, and nothing follows
pub all_end : (lines : List JournalLine) (held : List ℕ) (start now : Option (List ℕ)) → Takes (lines_bytes lines ++ held) start now → held ≡ [] → IsEmptyIfTold now → AreAllLines start lines
all_end lines held None now t none last = tt
all_end lines held (Some a) None t none last = absurd t
all_end lines held (Some a) (Some b) t none last =
    t ∙ ap (λ (l : List ℕ). (lines_bytes lines ++ held) ++ l) last ∙ append-nil (lines_bytes lines ++ held) ∙ ap (λ (l : List ℕ). lines_bytes lines ++ l) none ∙ append-nil (lines_bytes lines)

-- more is held
pub more_held : (lines : List JournalLine) (held : List ℕ) (start now : Option (List ℕ)) → Takes (lines_bytes lines ++ held) start now → 0 < length held → AreMoreLines start lines
more_held lines held None now t some = tt
more_held lines held (Some a) None t some = absurd t
more_held lines held (Some a) (Some b) t some = record { rest = held ++ b; behind = t ∙ append_assoc (lines_bytes lines) held b; some = some_bytes held b some }

-- nothing was left of the file
pub none_filled : (E : Type 0) (more : Bool) (old new : List ℕ) (before now : Option (List ℕ)) → more ≡ false → Fills {E = E} old new before now (Ok more) → (new ≡ old) × IsEmptyIfTold before
none_filled E true old new before now is h = absurd cc
none_filled E false old new before now is h = h

-- whether a journal has more behind its lines
pub over_of : (E : Type 0) (more : Bool) (lines : List JournalLine) (old new : List ℕ) (start before now : Option (List ℕ)) → Takes (lines_bytes lines ++ old) start before → Fills {E = E} old new before now (Ok more) → length old ≡ 0
    → IsOver {E = E} start lines (Ok (not more))
over_of E true lines old new start before now t h none = more_held lines new start now (stands_grown (lines_bytes lines) old new start before now t h.0) (omega (arith, h.1))
over_of E false lines old new start before now t h none = all_end lines old start before t (no_bytes old none) h.1
  where
    no_bytes : (bytes : List ℕ) → length bytes ≡ 0 → bytes ≡ []
    no_bytes [] e = refl
    no_bytes (b ∷ bytes) e = absurd (omega arith)

-- what comes of a journal where no line is held and nothing is left of the file
pub end_of : (E : Type 0) (next : Next) (lines : List JournalLine) (held : List ℕ) (v : Reading) (start before now : Option (List ℕ)) → Takes (lines_bytes lines ++ held) start before → v.held ≡ held → IsFree 10 held → IsEmptyIfTold before → IsEnd v.held next
    → Gives {E = E} start lines v now (Ok next)
end_of E (Line line) lines held v start before now t same free over end = absurd end
end_of E Wrong lines held v start before now t same free over end = wrong_end lines held start before t free (subst (λ (l : List ℕ). 0 < length l) same end) over
end_of E End lines held v start before now t same free over end = all_end lines held start before t (sym same ∙ end) over

-- ---- the first line

other_than_header : (line : JournalLine) (all : List ℕ) (held left : List ℕ) → IsLine line → ((heading : Heading) → kind.Header heading ≢ line) → all ≡ (lines_bytes (line ∷ []) ++ held) ++ left → (heading : Heading) (later : List ℕ) → IsHeading heading → line_bytes (kind.Header heading) ++ later ≢ all
other_than_header line all held left is other at heading later h e =
    other heading (same_line (kind.Header heading) line later (held ++ left) h is
    (e ∙ at ∙ append_assoc (lines_bytes (line ∷ [])) held left ∙ ap (λ (l : List ℕ). l ++ (held ++ left)) (append-nil (line_bytes line))))

no_header_none : (all : List ℕ) → all ≡ [] → (heading : Heading) (later : List ℕ) → IsHeading heading → line_bytes (kind.Header heading) ++ later ≢ all
no_header_none all none heading later h e = line_some (kind.Header heading) later h (e ∙ none)

pub heads_of : (E : Type 0) (next : Next) (header : Option Heading) (start : Option (List ℕ)) (v : Reading) (now : Option (List ℕ)) → IsHeader next header → Gives {E = E} start [] v now (Ok next) → Heads {E = E} start v now (Ok header)
heads_of E (Line (kind.Header heading)) (Some h) start v now is g =
    let same : h ≡ heading = cc in
    subst (λ (x : Heading). IsHeading x × Takes (lines_bytes (kind.Header x ∷ []) ++ v.held) start now) (sym same) g
heads_of E (Line (kind.Header heading)) None start v now is g = absurd cc
heads_of E (Line (kind.Packet id worker action picks)) (Some h) start v now is g = absurd cc
heads_of E (Line (kind.Packet id worker action picks)) None None v now is g = tt
heads_of E (Line (kind.Packet id worker action picks)) None (Some all) v None is g = absurd g.1
heads_of E (Line (kind.Packet id worker action picks)) None (Some all) v (Some left) is g =
    other_than_header (kind.Packet id worker action picks) all v.held left g.0 (λ heading e. absurd cc) g.1
heads_of E Wrong (Some h) start v now is g = absurd cc
heads_of E Wrong None None v now is g = tt
heads_of E Wrong None (Some all) v now is g = λ heading later h e. g.none (kind.Header heading) later h (e ∙ g.behind)
heads_of E End (Some h) start v now is g = absurd cc
heads_of E End None None v now is g = tt
heads_of E End None (Some all) v now is g = no_header_none all g
