-- The numbers that flows are drawn by: a linear congruential generator modulo 2^32, with the
-- multiplier and the increment of Numerical Recipes.
use Rattle.std.specs.Prelude.{ℕ, zero, suc, ◌+◌, ◌*◌, ◌/◌, ◌%◌, ◌^◌}

-- the number behind one
abbrev pub next_number : ℕ → ℕ
next_number x = (1664525 * x + 1013904223) % 2 ^ 32

-- the seed, and then each number behind the one before it
abbrev pub number_of : ℕ → ℕ → ℕ
number_of seed zero = seed
number_of seed (suc k) = next_number (number_of seed k)

-- the flow that a number draws of so many: its high half, modulo their number
abbrev pub flow_of : ℕ → ℕ → ℕ
flow_of flows x = x / 65536 % flows
