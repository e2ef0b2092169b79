-- What a map is seen as, and what a change of it is.
use Rattle.std.specs.Prelude.{◌≡◌, ◌≢◌, ℕ, ◌+◌, ◌&&◌, Bool, nat_lt, List, [], ◌∷◌, length, Option, Some, None, is_none, if◌then◌else◌}
use Rattle.nf_base.specs.Chains.{same_key}

-- the pairs of a key and its value, in an order of which nothing is said, and how many pairs may
-- stand
pub record Bindings : Type 0 where
  pub pairs : List (List ℕ × ℕ)
  pub most : ℕ

-- a map by its pairs
abbrev pub bindings_of : List (List ℕ × ℕ) → ℕ → Bindings
bindings_of pairs most = record { pairs = pairs; most = most }

-- the value of a key, if it is bound
abbrev pub value_of : List (List ℕ × ℕ) → List ℕ → Option ℕ
value_of [] key = None
value_of (pair ∷ pairs) key = if same_key pair.0 key then Some pair.1 else value_of pairs key

-- whether a key can be bound: it is not, and there is room for a pair
abbrev pub is_bindable : Bindings → List ℕ → Bool
is_bindable map key = is_none (value_of map.pairs key) && nat_lt (length map.pairs) map.most

-- A pair is put into a map: its key is bound to its value, and nothing else changes.
pub record IsPut (key : List ℕ) (value : ℕ) (old new : Bindings) : Type 0 where
  pub bound : value_of new.pairs key ≡ Some value
  pub others :
      (other : List ℕ) → other ≢ key → value_of new.pairs other ≡ value_of old.pairs other
  pub count : length new.pairs ≡ length old.pairs + 1
  pub most : new.most ≡ old.most

-- A pair is taken out of a map: its key is not bound, and nothing else changes.
pub record IsErased (key : List ℕ) (old new : Bindings) : Type 0 where
  pub unbound : value_of new.pairs key ≡ None
  pub others :
      (other : List ℕ) → other ≢ key → value_of new.pairs other ≡ value_of old.pairs other
  pub count : length old.pairs ≡ length new.pairs + 1
  pub most : new.most ≡ old.most
