-- Writing a file.
use Rattle.std.specs.Prelude.{◌≡◌, ◌≢◌, ℕ, ◌<◌, List, length, take, Some, Result, Ok, Err}
use Rattle.nf_files.specs.Told.{Told, IsCurrent}
use Rattle.nf_files.specs.Pieces.{Gains}
use Rattle.nf_files.specs.declared.fault.FilesFault.{FilesFault}

-- a piece was put behind what a file was given, and the content of its name follows
pub record Writes (old new : Told) (file : ℕ) (piece : List ℕ) : Type 0 where
  pub gained : Gains piece (old.given file) (new.given file)
  pub current : (n : List ℕ) → IsCurrent old n file → IsCurrent new n file
  pub contents : (n : List ℕ) → old.name file ≢ Some n → new.content n ≡ old.content n
  pub rests : (g : ℕ) → new.rest g ≡ old.rest g
  pub givens : (g : ℕ) → g ≢ file → new.given g ≡ old.given g
  pub names : (g : ℕ) → new.name g ≡ old.name g
  pub kinds : (g : ℕ) → new.kind g ≡ old.kind g
  pub latest_same : (n : List ℕ) → new.latest n ≡ old.latest n
  pub next_same : new.next ≡ old.next

-- the first bytes of a piece were put there, perhaps none, never all
pub record WritesFront (old new : Told) (file : ℕ) (piece : List ℕ) : Type 0 where
  pub count : ℕ
  pub part : count < length piece
  pub wrote : Writes old new file (take count piece)

-- the whole piece where the answer is `Ok`, and a front of it where it is an `Err`
abbrev pub WritesAll : {T : Type 0} → Told → Told → ℕ → List ℕ → Result T FilesFault → Type 0
WritesAll old new file piece (Ok x) = Writes old new file piece
WritesAll old new file piece (Err fault) = WritesFront old new file piece
