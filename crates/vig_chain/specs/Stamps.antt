-- What a chain is seen as, and the operations on it: by index the stamp of its entry or none.
use Rattle.std.specs.Prelude.{◌≡◌, ℕ, ◌+◌, ◌≤◌, max, Bool, true, false, ◌&&◌, nat_lt, IsTrue, List, Option, Some, None, replicate, slice_get, slice_set}
use Rattle.nf_base.specs.declared.share.Share.{Share}
use Rattle.nf_base.specs.Chains.{joined}
use Rattle.nf_base.specs.Shares.{owns}

-- A chain: by index the stamp of its entry or none, the greatest stamp given so far, and the share
-- whose indices are given out.
pub record Stamps : Type 0 where
  pub slots : List (Option ℕ)
  pub greatest : ℕ
  pub share : Share

-- a chain by its parts
abbrev pub stamps_of : List (Option ℕ) → ℕ → Share → Stamps
stamps_of slots greatest share = record { slots = slots; greatest = greatest; share = share }

-- a chain of so many indices before anything is done with it
abbrev pub opened : ℕ → Share → Stamps
opened size share = record { slots = replicate size None; greatest = 0; share = share }

-- the stamp of the entry at an index: none where the index is vacant, and none past the end
abbrev pub stamp_of : List (Option ℕ) → ℕ → Option ℕ
stamp_of slots i = joined (slice_get slots i)

-- whether there is an index, and no entry at it
abbrev pub is_vacant : Option (Option ℕ) → Bool
is_vacant None = false
is_vacant (Some None) = true
is_vacant (Some (Some stamp)) = false

-- whether an index is vacant: past the end none is
abbrev pub is_vacant_at : List (Option ℕ) → ℕ → Bool
is_vacant_at slots i = is_vacant (slice_get slots i)

-- whether an index may be given out: it is own and vacant
abbrev pub is_available : Stamps → ℕ → Bool
is_available chain i = owns chain.share i && is_vacant_at chain.slots i

-- whether a stamp is past its lifetime at a time
abbrev pub is_past : ℕ → ℕ → ℕ → Bool
is_past time lifetime stamp = nat_lt (stamp + lifetime) time

-- whether there is a stamp that is past its lifetime at a time
abbrev pub is_due : ℕ → ℕ → Option ℕ → Bool
is_due time lifetime None = false
is_due time lifetime (Some stamp) = is_past time lifetime stamp

-- whether an index has an entry that is past its lifetime at a time
abbrev pub is_due_at : ℕ → ℕ → Stamps → ℕ → Bool
is_due_at time lifetime chain i = is_due time lifetime (stamp_of chain.slots i)

-- some index passes a test
abbrev pub SomeIndexHas : (ℕ → Bool) → Type 0
SomeIndexHas test = (i : ℕ) × IsTrue (test i)

-- no index passes a test
abbrev pub NoIndexHas : (ℕ → Bool) → Type 0
NoIndexHas test = (i : ℕ) → IsTrue (test i) → ⊥

-- no entry of a chain has a lesser stamp than the one at an index
abbrev pub IsOldest : Stamps → ℕ → Type 0
IsOldest chain i =
    (j s u : ℕ) → stamp_of chain.slots i ≡ Some s → stamp_of chain.slots j ≡ Some u → s ≤ u

-- no entry's stamp is above a number
abbrev pub NoneAbove : ℕ → Stamps → Type 0
NoneAbove most chain = (i s : ℕ) → stamp_of chain.slots i ≡ Some s → s ≤ most

-- the stamp that a chain gives at a time
abbrev pub next_stamp : ℕ → Stamps → ℕ
next_stamp time chain = max time chain.greatest

-- a chain that gave a stamp
abbrev pub raised : ℕ → Stamps → Stamps
raised stamp chain = record chain { greatest = max chain.greatest stamp }

-- an entry with the chain's next stamp, put at an index or given that stamp anew
abbrev pub stamped : ℕ → ℕ → Stamps → Stamps
stamped time i chain = record chain {
  slots = slice_set chain.slots i (Some (next_stamp time chain));
  greatest = next_stamp time chain;
}

-- the entry at an index given up
abbrev pub freed : ℕ → Stamps → Stamps
freed i chain = record chain { slots = slice_set chain.slots i None }
