-- What a slot's eight bytes say.
use Rattle.std.specs.Prelude.{⊤, ℕ, ◌-◌, ◌+◌, ◌<◌, ◌≤◌, ◌^◌, ◌==◌, ◌++◌, List, length, replicate, Option, Some, None, if◌then◌else◌}
use Rattle.hash_slots.specs.declared.cells.Pair.{Pair}
use Rattle.hash_slots.specs.declared.cells.Slot.{Slot}

-- the pair in a slot, by its tag and its link, which is the index and 1, or 0 in an empty slot
abbrev pub pair_in : Slot → Option Pair
pair_in slot =
    if slot.link == 0 then None else Some (record { tag = slot.tag; index = slot.link - 1 })

-- an index that has a link
abbrev pub IsNarrow : Option Pair → Type 0
IsNarrow None = ⊤
IsNarrow (Some pair) = pair.index + 1 < 2 ^ 32

-- a slot in which no pair stands
abbrev pub empty_slot : Slot
empty_slot = record { tag = 0; link = 0 }

-- slots with empty ones behind them, so many in all
abbrev pub filled : ℕ → List (Option Pair) → List (Option Pair)
filled n slots = slots ++ replicate (n - length slots) None

-- So many slots stand, of those there are, and there is room for all.
pub record HasSlots (count stand room : ℕ) : Type 0 where
  pub within : stand ≤ count
  pub room_for : count ≤ room
