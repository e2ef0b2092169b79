-- How many paths a walk along lines has still to count.
use Rattle.std.specs.Prelude.{◌≡◌, ◌<◌, ◌+◌, ℕ, suc, Bool, true, false, List, [], ◌∷◌, map, length, slice_get, get_or, Option, Some}
use Rattle.path_walk.specs.declared.line.Line.{Line}
use Rattle.path_walk.specs.declared.line.Line.TheVariants as lines
use Rattle.path_walk.specs.declared.counting.Point.{Point}
use Rattle.path_walk.specs.declared.walk.NumberedTest.{NumberedTest}
use Rattle.path_walk.specs.declared.numbering.Numbered.{Numbered}
use Rattle.path_walk.specs.Seen.{text_seen}
use Rattle.path_walk.specs.Tests.{TestText}
use Rattle.path_walk.specs.Trees.{Tree}
use Rattle.path_walk.specs.Lines.{child, grown, trees, IsBelow}
use Rattle.path_walk.specs.Known.{Marks, known_seen}
use Rattle.path_walk.specs.Walks.{leaves, test_leaves}

-- how many paths go on at a line
abbrev pub count_at : List TestText → List (Tree ℕ) → Marks → ℕ → ℕ
count_at texts trees m at = length (leaves texts (child trees at) m)

-- those of one point
abbrev pub count_of : List TestText → List (Tree ℕ) → Point → ℕ
count_of texts trees p = count_at texts trees (known_seen p.known) p.at

-- those of all points that wait
abbrev pub count_waiting : List TestText → List (Tree ℕ) → List Point → ℕ
count_waiting texts trees [] = 0
count_waiting texts trees (p ∷ ps) = count_of texts trees p + count_waiting texts trees ps

-- those of a point and of all that wait
abbrev pub count_left : List TestText → List (Tree ℕ) → Point → List Point → ℕ
count_left texts trees p ps = count_of texts trees p + count_waiting texts trees ps

-- one point more waits
abbrev pub PointWaits : Marks → ℕ → (old new : List Point) → Type 0
PointWaits m at old new =
    (texts : List TestText) (trees : List (Tree ℕ)) →
    count_waiting texts trees new ≡ count_at texts trees m at + count_waiting texts trees old

-- a point goes on at a test with this mark, and the other way waits
pub record TestCounts (mark : Option Bool) (t : NumberedTest) (old : Point) (olds : List Point) (new : Point) (news : List Point) : Type 0 where
  pub left :
      (texts : List TestText) (trees : List (Tree ℕ)) →
      count_left texts trees new news
      ≡ length (test_leaves texts trees mark t (known_seen old.known)) + count_waiting texts trees olds
  pub falls : (n : ℕ) → t.hit < n → t.miss < n → new.at < n

-- a point goes on at a line, and other ways wait
pub record LineCounts (texts : List TestText) (line : Line ℕ) (old : Point) (olds : List Point) (new : Point) (news : List Point) : Type 0 where
  pub left :
      (trees : List (Tree ℕ)) →
      count_left texts trees new news
      ≡ length (leaves texts (grown line trees) (known_seen old.known)) + count_waiting texts trees olds
  pub falls : (n : ℕ) → IsBelow n line → new.at < n

-- a step at a line: the path ends at it, or goes on
abbrev pub CountSteps : Bool → List TestText → Line ℕ → (old : Point) (olds : List Point) (new : Point) (news : List Point) → Type 0
CountSteps true texts line old olds new news = LineCounts texts line old olds new news
CountSteps false texts line old olds new news = (line ≡ lines.Stop) × (new ≡ old) × (news ≡ olds)

-- a step from a point's line goes on at an earlier line, and as many paths are left
pub record CountGoesOn (texts : List TestText) (trees : List (Tree ℕ)) (old : Point) (olds : List Point) (new : Point) (news : List Point) : Type 0 where
  pub left : count_left texts trees new news ≡ count_left texts trees old olds
  pub falls : new.at < old.at

-- a point's path ends where it stands
pub record CountEnds (texts : List TestText) (trees : List (Tree ℕ)) (old : Point) (olds news : List Point) : Type 0 where
  pub others : news ≡ olds
  pub ends : count_of texts trees old ≡ 1

-- a step from a point's line
abbrev pub CountAdvances : Bool → List TestText → List (Tree ℕ) → (old : Point) (olds : List Point) (new : Point) (news : List Point) → Type 0
CountAdvances true texts trees old olds new news = CountGoesOn texts trees old olds new news
CountAdvances false texts trees old olds new news = CountEnds texts trees old olds news

-- how many paths a point and those that wait have, along numbered lines
abbrev pub count_left_along : Numbered → Point → List Point → ℕ
count_left_along n p ps = count_left (map text_seen n.texts.items) (trees [] n.lines.items) p ps

-- and those that wait
abbrev pub count_waiting_along : Numbered → List Point → ℕ
count_waiting_along n ps = count_waiting (map text_seen n.texts.items) (trees [] n.lines.items) ps

-- a step along numbered lines
abbrev pub CountAdvancesAlong : Numbered → (old : Point) (olds : List Point) (new : Point) (news : List Point) → Bool → Type 0
CountAdvancesAlong n old olds new news goes = CountAdvances goes (map text_seen n.texts.items) (trees [] n.lines.items) old olds new news

-- how many paths a point has, along numbered lines
abbrev pub count_along : Numbered → Point → ℕ
count_along n p = count_of (map text_seen n.texts.items) (trees [] n.lines.items) p

-- a line is an end, or a test that has one of so many texts
abbrev pub IsPlain : ℕ → Line ℕ → Type 0
IsPlain texts lines.Stop = Unit {0}
IsPlain texts (lines.Free hit miss) = ⊥
IsPlain texts (lines.Test n exchanged hit miss) = n < texts
IsPlain texts (lines.Make made taken full) = ⊥

-- and so are the first so many lines
pub record ArePlain (texts : ℕ) (ls : List (Line ℕ)) (count : ℕ) : Type 0 where
  pub at : (i : ℕ) (l : Line ℕ) → i < count → slice_get ls i ≡ Some l → IsPlain texts l

-- for each of some first lines a count of texts: it and those before it are plain by that count
pub record AreAhead (ls : List (Line ℕ)) (ahead : List ℕ) : Type 0 where
  pub at : (i : ℕ) → i < length ahead → ArePlain (get_or ahead i 0) ls (suc i)
