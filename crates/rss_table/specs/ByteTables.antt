-- The hash of each byte at each place of an input of at most 36 bytes, under a key.
use Rattle.std.specs.Prelude.{◌≡◌, ℕ, ◌+◌, ◌*◌, ◌<◌, List, [], ◌∷◌, drop, length, slice_index}
use Rattle.toeplitz_hash.specs.Toeplitz.{toeplitz_of}

-- the hash of byte b at place i stands at index 256 i + b
pub record HoldsHashes (key hashes : List ℕ) : Type 0 where
  pub count : length hashes ≡ 9216
  pub each : (i b : ℕ) → i < 36 → b < 256 → slice_index hashes (i * 256 + b) ≡ toeplitz_of (drop i key) (b ∷ [])
