-- The captures of made-up traffic at all ports, and the numbers of their files.
use Rattle.std.specs.Prelude.{◌≡◌, ℕ, zero, suc, ◌+◌, ◌-◌, ◌^◌, ◌<◌, List, [], ◌∷◌, ◌++◌, length, take, nat_le, slice_get, slice_set, Option, Some, None, option_and_then, if◌then◌else◌}
use Rattle.gen_traffic.specs.Traffic.{Recipe}
use Rattle.made_captures.specs.Records.{made_bytes}

-- the captures of so many ports from one on
abbrev pub captures_from : Recipe → ℕ → ℕ → List (List ℕ)
captures_from r port zero = []
captures_from r port (suc n) = made_bytes r port ∷ captures_from r (port + 1) n

-- those of all ports
abbrev pub captures_of : Recipe → List (List ℕ)
captures_of r = captures_from r 0 r.ports

-- The number of the first of so many captures: they have the last ones of 32 bits, which no opening
-- gives, since those count from 2.
abbrev pub first_number : ℕ → ℕ
first_number n = 2 ^ 32 - n

-- so many numbers from one on
abbrev pub numbers_from : ℕ → ℕ → List ℕ
numbers_from number zero = []
numbers_from number (suc n) = number ∷ numbers_from (number + 1) n

-- the numbers of so many captures, by port
abbrev pub numbers_of : ℕ → List ℕ
numbers_of n = numbers_from (first_number n) n

-- the port of which the capture with a number is, where it is that of one of so many
abbrev pub port_of : ℕ → ℕ → Option ℕ
port_of n number = if nat_le (first_number n) number then Some (number - first_number n) else None

-- what is left of the capture with a number
abbrev pub left_at : List (List ℕ) → ℕ → Option (List ℕ)
left_at captures number = option_and_then (λ port. slice_get captures port) (port_of (length captures) number)

-- a capture has this number
abbrev pub IsMade : List (List ℕ) → ℕ → Type 0
IsMade captures number = (left : List ℕ) × (left_at captures number ≡ Some left)

-- So many bytes of the front of a port's capture were given, and of the others none. None for a buffer
-- that has room says that nothing was left.
pub record IsGiven (port count : ℕ) (buffer : List ℕ) (old new : List (List ℕ)) : Type 0 where
  pub later : List ℕ
  pub given : slice_get old port ≡ Some (take count buffer ++ later)
  pub kept : new ≡ slice_set old port later
  pub at_end : count ≡ 0 → 0 < length buffer → later ≡ []
