-- Lines, each of which goes on at earlier ones, and the trees that they stand for.
use Rattle.std.specs.Prelude.{◌≡◌, ◌<◌, ◌≤◌, ℕ, List, [], ◌∷◌, ◌++◌, length, get_or, slice_get, Some}
use Rattle.path_walk.specs.declared.line.Line.{Line}
use Rattle.path_walk.specs.declared.line.Line.TheVariants as line
use Rattle.path_walk.specs.Trees.{Tree, Leaf, Free, Tested, Made}

abbrev pub child : {A : Type 0} → List (Tree A) → ℕ → Tree A
child ts i = get_or ts i Leaf

-- a line over the trees of those before it
abbrev pub grown : {A : Type 0} → Line A → List (Tree A) → Tree A
grown line.Stop ts = Leaf
grown (line.Free hit miss) ts = Free (child ts hit) (child ts miss)
grown (line.Test test e hit miss) ts = Tested test e (child ts hit) (child ts miss)
grown (line.Make made taken full) ts = Made (child ts made) (child ts taken) (child ts full)

-- the trees of lines, behind those of others
abbrev pub trees : {A : Type 0} → List (Tree A) → List (Line A) → List (Tree A)
trees ts [] = ts
trees ts (l ∷ ls) = trees (ts ++ grown l ts ∷ []) ls

abbrev pub tree_at : {A : Type 0} → List (Line A) → ℕ → Tree A
tree_at ls i = child (trees [] ls) i

-- whether a line goes on at earlier ones
abbrev pub IsBelow : {A : Type 0} → ℕ → Line A → Type 0
IsBelow n line.Stop = Unit {0}
IsBelow n (line.Free hit miss) = (hit < n) × (miss < n)
IsBelow n (line.Test test e hit miss) = (hit < n) × (miss < n)
IsBelow n (line.Make made taken full) = (made < n) × (taken < n) × (full < n)

pub record IsLaid {A : Type 0} (ls : List (Line A)) : Type 0 where
  pub at : (i : ℕ) (l : Line A) → slice_get ls i ≡ Some l → IsBelow i l

-- lines behind others, which stay as they are
pub record Keeps {A : Type 0} (old new : List (Line A)) : Type 0 where
  pub longer : length old ≤ length new
  pub same : (i : ℕ) → i < length old → tree_at new i ≡ tree_at old i
  pub laid : IsLaid new
