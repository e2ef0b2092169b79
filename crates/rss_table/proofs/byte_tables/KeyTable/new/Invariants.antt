use Rattle.std.proofs.Common.{◌≡◌, ◌<◌, ◌/◌, ◌%◌, ◌∷◌, [], drop, ℕ, get_or}
use Rattle.std.specs.Vec.{vec_len, vec_capacity}
use Rattle.toeplitz_hash.specs.Toeplitz.{toeplitz_of}
use Rattle.rss_table.proofs.byte_tables.KeyTable.new.Given as goal

-- those so far, and there is room for all
abbrev pub invariant-loop-k : goal.invariant-loop-k
invariant-loop-k l = record {
  len : vec_len l.hashes ≡ l.k;
  room : vec_capacity l.hashes ≡ 9216;
  each : (j : ℕ) → j < l.k → get_or l.hashes.items j 0 ≡ toeplitz_of (drop (j / 256) l.key) ((j % 256) ∷ []);
}
