-- Files that were created one after another.
use Rattle.std.specs.Prelude.{◌≡◌, ℕ, ◌+◌, ◌≤◌, List, Some, slice_get}

-- their numbers follow one another, and none is that of standard output or standard error
pub record AreInOrder (files : List ℕ) : Type 0 where
  pub first : ℕ
  pub follow : (k file : ℕ) → slice_get files k ≡ Some file → file ≡ first + k
  pub from_two : (k file : ℕ) → slice_get files k ≡ Some file → 2 ≤ file
