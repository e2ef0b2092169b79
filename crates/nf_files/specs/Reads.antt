-- Reading a file.
use Rattle.std.specs.Prelude.{◌≡◌, ◌≢◌, ◌<◌, ℕ, ◌≤◌, List, length, take}
use Rattle.nf_files.specs.Told.{Told, IsToldAs, IsEmptyIfTold}
use Rattle.nf_files.specs.Pieces.{Takes}

-- nothing changed but what is left of one file
pub record Keeps (old new : Told) (file : ℕ) : Type 0 where
  pub rests : (g : ℕ) → g ≢ file → new.rest g ≡ old.rest g
  pub givens : (g : ℕ) → new.given g ≡ old.given g
  pub names : (g : ℕ) → new.name g ≡ old.name g
  pub kinds : (g : ℕ) → new.kind g ≡ old.kind g
  pub contents : (n : List ℕ) → new.content n ≡ old.content n
  pub latest_same : (n : List ℕ) → new.latest n ≡ old.latest n
  pub next_same : new.next ≡ old.next

-- The first `count` bytes of the buffer were taken from the front of what is left of a file.
-- None for a buffer that has room says that nothing was left.
pub record Reads (old new : Told) (file count : ℕ) (buffer : List ℕ) : Type 0 where
  pub within : count ≤ length buffer
  pub taken : Takes (take count buffer) (old.rest file) (new.rest file)
  pub at_end : count ≡ 0 → 0 < length buffer → IsEmptyIfTold (old.rest file)
  pub kept : Keeps old new file

-- all that was left of a file was read
pub record ReadsWhole (old new : Told) (file : ℕ) (bytes : List ℕ) : Type 0 where
  pub all : IsToldAs bytes (old.rest file)
  pub none_left : IsEmptyIfTold (new.rest file)
  pub kept : Keeps old new file
