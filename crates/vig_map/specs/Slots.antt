-- Slots, each with a pair or empty.
use Rattle.std.specs.Prelude.{◌≡◌, ◌≢◌, ℕ, ◌<◌, ◌≤◌, IsSome, List, [], ◌∷◌, length, Option, Some, None, slice_get}
use Rattle.nf_base.specs.Chains.{joined}
use Rattle.vig_map.specs.declared.slots.Pair.{Pair}
use Rattle.vig_map.specs.Hashes.{first_slot}

-- the pairs that stand in the slots
abbrev pub pairs_of : List (Option Pair) → List (List ℕ × ℕ)
pairs_of [] = []
pairs_of (None ∷ slots) = pairs_of slots
pairs_of (Some pair ∷ slots) = (pair.key, pair.value) ∷ pairs_of slots

-- the pair at a slot: none in an empty slot, and none past the end
abbrev pub slot_at : List (Option Pair) → ℕ → Option Pair
slot_at slots i = joined (slice_get slots i)

-- a slot that the search for a key goes past: another key stands there
pub record IsPassed (slots : List (Option Pair)) (key : List ℕ) (i : ℕ) : Type 0 where
  pub pair : Pair
  pub there : slot_at slots i ≡ Some pair
  pub other : pair.key ≢ key

-- Where the search for a key stops that begins at a slot: there the key stands, or no pair does.
pub record IsStop (slots : List (Option Pair)) (from : ℕ) (key : List ℕ) (i : ℕ) : Type 0 where
  pub from_on : from ≤ i
  pub passed : (x : ℕ) → from ≤ x → x < i → IsPassed slots key x
  pub stops : (pair : Pair) → slot_at slots i ≡ Some pair → pair.key ≡ key

-- no key stands in two slots
abbrev pub AreApart : List (Option Pair) → Type 0
AreApart slots =
    (i j : ℕ) (p q : Pair)
    → slot_at slots i ≡ Some p → slot_at slots j ≡ Some q → p.key ≡ q.key → i ≡ j

-- Each pair stands where its key's search begins or after it, and no slot between is empty, so the
-- search for its key meets it.
pub record AreMet (starts : ℕ) (slots : List (Option Pair)) : Type 0 where
  pub after : (i : ℕ) (p : Pair) → slot_at slots i ≡ Some p → first_slot starts p.key ≤ i
  pub reached :
      (i : ℕ) (p : Pair) → slot_at slots i ≡ Some p
      → (x : ℕ) → first_slot starts p.key ≤ x → x < i → IsSome (slot_at slots x)
  pub apart : AreApart slots

-- The same while one slot is a gap, and the pairs from slot `at` on have not been looked at: only
-- over the gap may the search for one of these fail to come to it.
pub record AreMetButOver (starts gap at : ℕ) (slots : List (Option Pair)) : Type 0 where
  pub order : gap < at
  pub empty : slot_at slots gap ≡ None
  pub after : (i : ℕ) (p : Pair) → slot_at slots i ≡ Some p → first_slot starts p.key ≤ i
  pub reached :
      (i : ℕ) (p : Pair) → slot_at slots i ≡ Some p
      → (x : ℕ) → first_slot starts p.key ≤ x → x < i → x ≢ gap → IsSome (slot_at slots x)
  pub over :
      (i : ℕ) (p : Pair)
      → slot_at slots i ≡ Some p → first_slot starts p.key ≤ gap → gap < i → at ≤ i
  pub apart : AreApart slots

-- each pair of some slots stands in others
abbrev pub Carries : List (Option Pair) → List (Option Pair) → Type 0
Carries slots others =
    (i : ℕ) (p : Pair) → slot_at slots i ≡ Some p → (j : ℕ) × (slot_at others j ≡ Some p)

-- Slots with the same pairs, in other places.
pub record AreSamePairs (old new : List (Option Pair)) : Type 0 where
  pub carried : Carries old new
  pub brought : Carries new old
  pub count : length (pairs_of new) ≡ length (pairs_of old)
  pub size : length new ≡ length old
