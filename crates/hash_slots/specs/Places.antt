-- Slots, each with a pair or empty.
use Rattle.std.specs.Prelude.{◌≡◌, ◌≢◌, ℕ, ◌<◌, ◌≤◌, IsSome, IfNone, IfSome, List, [], ◌∷◌, length, Bool, true, false, Option, Some, None, slice_get, bit_and}
use Rattle.nf_base.specs.Chains.{joined}
use Rattle.hash_slots.specs.declared.cells.Pair.{Pair}
use Rattle.hash_slots.specs.declared.probe.Found.{Found}

-- the pairs that stand in the slots
abbrev pub pairs_of : List (Option Pair) → List Pair
pairs_of [] = []
pairs_of (None ∷ slots) = pairs_of slots
pairs_of (Some pair ∷ slots) = pair ∷ pairs_of slots

-- the pair at a slot: none in an empty slot, and none past the end
abbrev pub slot_at : List (Option Pair) → ℕ → Option Pair
slot_at slots i = joined (slice_get slots i)

-- the slot at which the search for a tag begins, by the low bits of the tag
unfoldable pub home : ℕ → ℕ → ℕ
home mask tag = bit_and tag mask

-- a slot that the search for a pair goes past: another pair stands there
pub record IsPassed (slots : List (Option Pair)) (wanted : Pair) (i : ℕ) : Type 0 where
  pub pair : Pair
  pub there : slot_at slots i ≡ Some pair
  pub other : pair ≢ wanted

-- Where the search for a pair stops that begins at a slot: there the pair stands, or none does.
pub record IsStop (slots : List (Option Pair)) (from : ℕ) (wanted : Pair) (i : ℕ) : Type 0 where
  pub from_on : from ≤ i
  pub passed : (x : ℕ) → from ≤ x → x < i → IsPassed slots wanted x
  pub stops : (pair : Pair) → slot_at slots i ≡ Some pair → pair ≡ wanted

-- a slot that the search for a key goes past: a pair of another tag stands there, or the key under
-- its index was found to be another one
pub record IsMissed (answers : ℕ → Bool → Type 0) (slots : List (Option Pair)) (tag i : ℕ)
    : Type 0 where
  pub pair : Pair
  pub there : slot_at slots i ≡ Some pair
  pub other : pair.tag ≡ tag → answers pair.index false

-- Where the search for a key with a tag ends that begins at a slot, and what it finds.
pub record IsFound (answers : ℕ → Bool → Type 0) (slots : List (Option Pair)) (from tag : ℕ)
    (found : Found) : Type 0 where
  pub from_on : from ≤ found.at
  pub missed : (x : ℕ) → from ≤ x → x < found.at → IsMissed answers slots tag x
  pub none : IfNone found.index (slot_at slots found.at ≡ None)
  pub some :
      IfSome found.index (λ index. (slot_at slots found.at ≡ Some (record { tag = tag; index = index })) × answers index true)

-- no pair stands in two slots
abbrev pub AreApart : List (Option Pair) → Type 0
AreApart slots =
    (i j : ℕ) (p q : Pair)
    → slot_at slots i ≡ Some p → slot_at slots j ≡ Some q → p ≡ q → i ≡ j

-- Each pair stands at its home or after it, and no slot between is empty, so its search meets it.
pub record AreMet (mask : ℕ) (slots : List (Option Pair)) : Type 0 where
  pub after : (i : ℕ) (p : Pair) → slot_at slots i ≡ Some p → home mask p.tag ≤ i
  pub reached :
      (i : ℕ) (p : Pair) → slot_at slots i ≡ Some p
      → (x : ℕ) → home mask p.tag ≤ x → x < i → IsSome (slot_at slots x)
  pub apart : AreApart slots

-- The same while one slot is a gap, and the pairs from slot `at` on have not been looked at: only
-- over the gap may the search for one of these fail to come to it.
pub record AreMetButOver (mask gap at : ℕ) (slots : List (Option Pair)) : Type 0 where
  pub order : gap < at
  pub empty : slot_at slots gap ≡ None
  pub after : (i : ℕ) (p : Pair) → slot_at slots i ≡ Some p → home mask p.tag ≤ i
  pub reached :
      (i : ℕ) (p : Pair) → slot_at slots i ≡ Some p
      → (x : ℕ) → home mask p.tag ≤ x → x < i → x ≢ gap → IsSome (slot_at slots x)
  pub over :
      (i : ℕ) (p : Pair)
      → slot_at slots i ≡ Some p → home mask p.tag ≤ gap → gap < i → at ≤ i
  pub apart : AreApart slots

-- each pair of some slots stands in others
abbrev pub Carries : List (Option Pair) → List (Option Pair) → Type 0
Carries slots others =
    (i : ℕ) (p : Pair) → slot_at slots i ≡ Some p → (j : ℕ) × (slot_at others j ≡ Some p)

-- Slots with the same pairs, in other places.
pub record AreSamePairs (old new : List (Option Pair)) : Type 0 where
  pub carried : Carries old new
  pub brought : Carries new old
  pub count : length (pairs_of new) ≡ length (pairs_of old)
  pub size : length new ≡ length old
