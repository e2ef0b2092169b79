-- Numbers in the bytes of a frame, in network order.
use Rattle.std.specs.Prelude.{ℕ, zero, suc, ◌+◌, ◌*◌, List, slice_index}

-- the number of some bytes from an offset on, the first one highest
abbrev pub number_at : List ℕ → ℕ → ℕ → ℕ
number_at frame offset zero = 0
number_at frame offset (suc count) = number_at frame offset count * 256 + slice_index frame (offset + count)
