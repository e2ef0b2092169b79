-- What bytes begin with.
use Rattle.std.proofs.Common.{◌≡◌, ◌≢◌, ℕ, ◌+◌, ◌<◌, ◌≤◌, List, [], ◌∷◌, ◌++◌, length, get_or, take, drop, sym, ap, ◌∙◌, append_assoc, length-append, length-take, add-one, arith}
use Rattle.std.proofs.Math.Seq.{take-suc}
use Rattle.std.proofs.lemmas.List.{take-append-drop}
use Rattle.run_history.specs.declared.line.JournalLine.{JournalLine}
use Rattle.run_history.specs.Line.{line_bytes}
use Rattle.run_history.specs.Lines.{IsLine}
use Rattle.run_history.specs.Reading.{IsFree}
use Rattle.run_history.specs.Laws.{EndsByLf}
use Rattle.run_history.proofs.Words.{same_cut}
use Rattle.run_history.proofs.Cutting.{no_front}
use Rattle.run_history.proofs.Unique.{lines_one, lines_end}
use Rattle.file_match.proofs.Comparing.{front_of_front}
use Rattle.journal_read.specs.Journals.{HasNoLine}
use Rattle.journal_read.specs.Firsts.{EndsOnce, IsNoFront}
use Rattle.journal_read.proofs.Short.{line_short}

-- a line and what follows it, by its LF
by_lf : (line : JournalLine) (ends : EndsByLf line) (later : List ℕ) → ends.front ++ 10 ∷ later ≡ line_bytes line ++ later
by_lf line ends later = sym (append_assoc ends.front (10 ∷ []) later) ∙ ap (λ (t : List ℕ). t ++ later) (sym ends.ends)

-- bytes with no LF begin with no line
pub free_no_line : (bytes : List ℕ) → IsFree 10 bytes → HasNoLine bytes
free_no_line bytes free = λ line later h e.
    let ends = lines_end line h in
    no_front 10 bytes ends.front later free (by_lf line ends later ∙ e)

-- nor, where they are long, whatever follows them
pub long_no_line : (bytes : List ℕ) → IsFree 10 bytes → 512 ≤ length bytes → IsNoFront bytes
long_no_line bytes free long = λ rest line later h e.
    let is = front_of_front (line_bytes line) bytes later rest (omega (arith, line_short line h, long)) e in
    free_no_line bytes free line is.0 h is.1

-- nor do bytes of which those up to the first LF are no line
pub other_no_line : (bytes : List ℕ) (end : ℕ) → EndsOnce (take end bytes) → ((line : JournalLine) → IsLine line → line_bytes line ≢ take end bytes) → IsNoFront bytes
other_no_line bytes end once none = λ rest line later h e.
    let ends = lines_end line h in
    let behind : once.front ++ 10 ∷ (drop end bytes ++ rest) ≡ bytes ++ rest =
    sym (append_assoc once.front (10 ∷ []) (drop end bytes ++ rest))
    ∙ ap (λ (t : List ℕ). t ++ (drop end bytes ++ rest)) once.ends
    ∙ sym (append_assoc (take end bytes) (drop end bytes) rest)
    ∙ ap (λ (t : List ℕ). t ++ rest) (take-append-drop end bytes) in
    let two = same_cut 10 ends.front once.front later (drop end bytes ++ rest) ends.free once.free (by_lf line ends later ∙ e ∙ sym behind) in
    none line h (ends.ends ∙ ap (λ (t : List ℕ). t ++ 10 ∷ []) two.0 ∙ once.ends)

pub once_some : (bytes : List ℕ) (end : ℕ) → EndsOnce (take end bytes) → 0 < length bytes
once_some [] end once = absurd (omega (arith, ap (λ (t : List ℕ). length t) once.ends, length-append once.front (10 ∷ []), length-take end (let none : List ℕ = [] in none)))
once_some (b ∷ bytes) end once = omega arith

-- an LF at a place, and none before it
pub ends_once : (bytes : List ℕ) (i : ℕ) → i < length bytes → IsFree 10 (take i bytes) → get_or bytes i 0 ≡ 10 → EndsOnce (take (i + 1) bytes)
ends_once bytes i lt free is = rw (add-one i) (record { front = take i bytes; free = free; ends = ap (λ (c : ℕ). take i bytes ++ c ∷ []) (sym is) ∙ sym (take-suc bytes i 0 lt) })

-- bytes begin with one line at most
pub same_line : (a b : JournalLine) (x y : List ℕ) → IsLine a → IsLine b → line_bytes a ++ x ≡ line_bytes b ++ y → a ≡ b
same_line a b x y h k e =
    let ends = lines_end a h in
    let others = lines_end b k in
    let two = same_cut 10 ends.front others.front x y ends.free others.free (by_lf a ends x ∙ e ∙ sym (by_lf b others y)) in
    lines_one a b h k (ends.ends ∙ ap (λ (t : List ℕ). t ++ 10 ∷ []) two.0 ∙ sym others.ends)

-- a line has bytes
pub line_some : (line : JournalLine) (later : List ℕ) → IsLine line → line_bytes line ++ later ≢ []
line_some line later h e =
    let ends = lines_end line h in
    absurd (omega (arith, ap (λ (t : List ℕ). length t) e, length-append (line_bytes line) later, ap (λ (t : List ℕ). length t) ends.ends, length-append ends.front (10 ∷ [])))
