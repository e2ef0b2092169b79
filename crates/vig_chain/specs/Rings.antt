-- Rings of cells, doubly linked in arrays. Those below `size` are a chain's indices; the cell
-- `size` is where the ring of the entries begins and ends, `size + 1` where that of the available
-- indices does.
use Rattle.std.specs.Prelude.{◌≡◌, ℕ, ◌+◌, ◌<◌, ◌≤◌, Bool, nat_lt, if◌then◌else◌, List, Option, Some, None, slice_index, slice_set}
use Rattle.vig_chain.specs.Stamps.{stamp_of}

-- by cell the next one and the one before
pub record Rings : Type 0 where
  pub next : List ℕ
  pub prev : List ℕ

-- a cell taken out: the one before it and the next are linked
abbrev pub unlinked : ℕ → Rings → Rings
unlinked i rings = record {
  next = slice_set rings.next (slice_index rings.prev i) (slice_index rings.next i);
  prev = slice_set rings.prev (slice_index rings.next i) (slice_index rings.prev i);
}

-- a cell put last in a ring: before the cell where the ring begins
abbrev pub appended : ℕ → ℕ → Rings → Rings
appended i ring rings = record {
  next = slice_set (slice_set rings.next (slice_index rings.prev ring) i) i ring;
  prev = slice_set (slice_set rings.prev i (slice_index rings.prev ring)) ring i;
}

-- The links of cells, each in the ring that begins at the cell `ring_of` gives, or in none where
-- that is 0. Along a ring the ranks rise, so each of its cells is met on the way from where it
-- begins.
pub record IsLinked (size : ℕ) (next prev ring_of : ℕ → ℕ) : Type 0 where
  pub rank : ℕ → ℕ
  pub rank_bound : ℕ
  pub some : 0 < size
  pub begins : ring_of size ≡ size
  pub begins_free : ring_of (size + 1) ≡ size + 1
  pub at_begin : (j : ℕ) → size ≤ j → size ≤ ring_of j → ring_of j ≡ j
  pub next_ring : (j : ℕ) → size ≤ ring_of j → ring_of (next j) ≡ ring_of j
  pub prev_ring : (j : ℕ) → size ≤ ring_of j → ring_of (prev j) ≡ ring_of j
  pub back : (j : ℕ) → size ≤ ring_of j → prev (next j) ≡ j
  pub forth : (j : ℕ) → size ≤ ring_of j → next (prev j) ≡ j
  pub rising : (j : ℕ) → size ≤ ring_of j → j < size → prev j < size → rank (prev j) < rank j
  pub under : (j : ℕ) → j < size → rank j < rank_bound

-- where an index's ring begins, by whether it is own and its entry's stamp
abbrev pub ring_for : ℕ → Bool → Option ℕ → ℕ
ring_for size own (Some stamp) = size
ring_for size own None = if own then size + 1 else 0

-- where a cell's ring begins, by the stamps and by which indices are own
abbrev pub ring_of : ℕ → (ℕ → Bool) → List (Option ℕ) → ℕ → ℕ
ring_of size own slots j =
    if nat_lt j size then ring_for size (own j) (stamp_of slots j)
    else (if nat_lt j (size + 2) then j else 0)

-- the links of a chain with these stamps
abbrev pub AreLinked : ℕ → (ℕ → Bool) → List (Option ℕ) → Rings → Type 0
AreLinked size own slots rings =
    IsLinked size (slice_index rings.next) (slice_index rings.prev) (ring_of size own slots)
