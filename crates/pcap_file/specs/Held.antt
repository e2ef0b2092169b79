-- Bytes that were taken off the front of a file, and those that are still to come.
use Rattle.std.specs.Prelude.{◌≡◌, ℕ, ◌<◌, ◌≤◌, Bool, true, false, List, [], ◌++◌, length, drop, Option, Some, None, option_map}
use Rattle.nf_files.specs.Told.{Told, IsEmptyIfTold}
use Rattle.nf_files.specs.Reads.{Keeps}

-- a file that is read, and the bytes that were taken off its front
pub record Held : Type 0 where
  pub file : ℕ
  pub bytes : List ℕ

-- the bytes that are still to come, where the rest of the file is told: those held, and that rest
abbrev pub to_come : List ℕ → Option (List ℕ) → Option (List ℕ)
to_come held rest = option_map (λ bytes. held ++ bytes) rest

-- More bytes were taken: the same are still to come, and nothing else changed.
pub record Grows (old new : Held) (before now : Told) : Type 0 where
  pub same_file : new.file ≡ old.file
  pub more : List ℕ
  pub grown : new.bytes ≡ old.bytes ++ more
  pub same_bytes : to_come new.bytes (now.rest old.file) ≡ to_come old.bytes (before.rest old.file)
  pub kept : Keeps before now old.file

-- So many bytes are held, or all that there were, which are fewer.
abbrev pub Filled : ℕ → List ℕ → Option (List ℕ) → Bool → Type 0
Filled wanted held rest true = wanted ≤ length held
Filled wanted held rest false = (length held < wanted) × IsEmptyIfTold rest

-- So many bytes were stepped over of what was left of a file, where that is told, or all that there were,
-- which were fewer.
abbrev pub Skips : ℕ → Option (List ℕ) → Option (List ℕ) → Bool → Type 0
Skips count (Some old) (Some new) true = (count ≤ length old) × (new ≡ drop count old)
Skips count (Some old) (Some new) false = (length old < count) × (new ≡ [])
Skips count None None b = Unit {0}
Skips count (Some old) None b = ⊥
Skips count None (Some new) b = ⊥

-- the first 24 bytes of a file are held, or all that there were
pub record IsBegun (file : ℕ) (held : Held) (before now : Told) : Type 0 where
  pub file_is : held.file ≡ file
  pub most : length held.bytes ≤ 24
  pub same_bytes : to_come held.bytes (now.rest file) ≡ before.rest file
  pub whole : Bool
  pub filled : Filled 24 held.bytes (now.rest file) whole
