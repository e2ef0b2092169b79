-- Bytes that lie among pieces of memory.
use Rattle.std.specs.Prelude.{◌≡◌, ◌+◌, ◌-◌, ◌<◌, ◌≤◌, ℕ, List, [], length, take, drop, slice_index_or}
use Rattle.locked_run.specs.declared.pieces.Spot.{Spot}

-- the bytes at a spot
abbrev pub bytes_at : List (List ℕ) → Spot → List ℕ
bytes_at pieces spot = take spot.count (drop spot.start (slice_index_or pieces spot.piece []))

-- a spot lies within its piece
pub record LiesIn (pieces : List (List ℕ)) (spot : Spot) : Type 0 where
  pub piece_is : spot.piece < length pieces
  pub within : spot.start + spot.count ≤ length (slice_index_or pieces spot.piece [])

-- what lay among pieces lies there still
pub record StayIn (old new : List (List ℕ)) : Type 0 where
  pub lies : (spot : Spot) → LiesIn old spot → LiesIn new spot
  pub same : (spot : Spot) → LiesIn old spot → bytes_at new spot ≡ bytes_at old spot

-- the last piece holds so little that so many bytes more make no more than 1 MiB
pub record HasRoom (count : ℕ) (pieces : List (List ℕ)) : Type 0 where
  pub some : 0 < length pieces
  pub room : length (slice_index_or pieces (length pieces - 1) []) + count ≤ 1048576
