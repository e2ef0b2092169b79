-- Bytes in pieces: the words of a line, and the lines of a text.
use Rattle.std.specs.Prelude.{◌≡◌, ◌≢◌, ℕ, ◌==◌, List, [], ◌∷◌, ◌++◌, Option, Some, None, if◌then◌else◌}
use Rattle.std.specs.List.{AllByRecursion}
use denote.Ref.{Bor}

-- a byte stands nowhere among some
abbrev pub IsFree : ℕ → List ℕ → Type 0
IsFree separator bytes = AllByRecursion (λ (c : ℕ). c ≢ separator) bytes

-- the bytes up to the first separator, and those behind it; none where it stands nowhere
abbrev pub IsCut : ℕ → List ℕ → Option (Bor (List ℕ) × Bor (List ℕ)) → Type 0
IsCut separator bytes None = IsFree separator bytes
IsCut separator bytes (Some p) = IsFree separator p.0.now × (p.0.now ++ separator ∷ p.1.now ≡ bytes)

-- pieces with a byte in front of the first
abbrev pub in_first : ℕ → List (List ℕ) → List (List ℕ)
in_first b [] = (b ∷ []) ∷ []
in_first b (piece ∷ pieces) = (b ∷ piece) ∷ pieces

-- the pieces between separators, one more than these
abbrev pub pieces : ℕ → List ℕ → List (List ℕ)
pieces separator [] = [] ∷ []
pieces separator (b ∷ bytes) =
    (if b == separator then [] ∷ pieces separator bytes else in_first b (pieces separator bytes))

-- lines with a byte in front of the first, if there is one
abbrev pub in_line : ℕ → List (List ℕ) → List (List ℕ)
in_line b [] = []
in_line b (line ∷ lines) = (b ∷ line) ∷ lines

-- the lines of a text, each of which ends by LF; what stands behind the last LF is none
abbrev pub lines_of : List ℕ → List (List ℕ)
lines_of [] = []
lines_of (b ∷ bytes) = (if b == 10 then [] ∷ lines_of bytes else in_line b (lines_of bytes))
