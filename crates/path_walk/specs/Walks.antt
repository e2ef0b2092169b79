-- The paths that a walk along lines has still to list.
use Rattle.std.specs.Prelude.{◌≡◌, ◌<◌, ℕ, Bool, true, false, not, List, [], ◌∷◌, ◌++◌, map, length, Option, Some, None, if◌then◌else◌}
use Rattle.nf_base.specs.Paths.{Branch, Hits, Misses, Makes, IsTaken, IsFull}
use Rattle.path_walk.specs.Branches.{branch_seen}
use Rattle.path_walk.specs.declared.line.Line.{Line}
use Rattle.path_walk.specs.declared.line.Line.TheVariants as lines
use Rattle.path_walk.specs.declared.walk.Walk.{Walk}
use Rattle.path_walk.specs.declared.numbering.Numbered.{Numbered}
use Rattle.path_walk.specs.Seen.{text_seen}
use Rattle.path_walk.specs.declared.walk.NumberedTest.{NumberedTest}
use Rattle.path_walk.specs.Tests.{TestText}
use Rattle.path_walk.specs.Feasible.{equals_of, differ}
use Rattle.path_walk.specs.Trees.{Tree, Leaf, Free, Tested, Made}
use Rattle.path_walk.specs.Lines.{child, grown, trees, tree_at, IsBelow}
use Rattle.path_walk.specs.Numbering.{text_at}
use Rattle.path_walk.specs.Known.{Marks, nothing_known, known_seen, mark_at, excludes, told_mark}

-- a branch in front of paths
abbrev pub ahead : Branch → List (List Branch) → List (List Branch)
ahead b paths = map (λ path. b ∷ path) paths

-- paths behind branches
abbrev pub behind : List Branch → List (List Branch) → List (List Branch)
behind bs paths = map (λ path. bs ++ path) paths

-- where a test goes that holds so
abbrev pub one_way : {A : Type 0} → Bool → Bool → A → A → A
one_way exchanged holds hit miss = if differ exchanged holds then hit else miss

-- a test by its mark, and by whether its field is known to be another number
abbrev pub tested : Bool → Option Bool → Bool → Marks → (Bool → Marks) → (hit miss : Marks → List (List Branch)) → List (List Branch)
tested exchanged (Some holds) other m told hit miss = one_way exchanged holds (hit m) (miss m)
tested exchanged None true m told hit miss = one_way exchanged false (hit (told false)) (miss (told false))
tested exchanged None false m told hit miss = hit (told (not exchanged)) ++ miss (told exchanged)

-- the branches along the paths of a tree, as far as what is known allows
abbrev pub leaves : List TestText → Tree ℕ → Marks → List (List Branch)
leaves texts Leaf m = [] ∷ []
leaves texts (Free hit miss) m = ahead Hits (leaves texts hit m) ++ ahead Misses (leaves texts miss m)
leaves texts (Tested n exchanged hit miss) m =
    tested exchanged (mark_at m n) (excludes (equals_of (text_at texts n)) m) m (told_mark m n (equals_of (text_at texts n)))
    (λ k. ahead Hits (leaves texts hit k)) (λ k. ahead Misses (leaves texts miss k))
leaves texts (Made made taken full) m =
    ahead Makes (leaves texts made m) ++ (ahead IsTaken (leaves texts taken m) ++ ahead IsFull (leaves texts full m))

-- the paths that go on at a line
abbrev pub paths_at : List TestText → List (Tree ℕ) → List Branch → Marks → ℕ → List (List Branch)
paths_at texts trees bs m at = behind bs (leaves texts (child trees at) m)

-- the paths of one walk
abbrev pub paths_of : List TestText → List (Tree ℕ) → Walk → List (List Branch)
paths_of texts trees w = behind (map branch_seen w.branches.items) (leaves texts (child trees w.at) (known_seen w.known))

-- the paths of those that wait, the last one first
abbrev pub paths_waiting : List TestText → List (Tree ℕ) → List Walk → List (List Branch)
paths_waiting texts trees [] = []
paths_waiting texts trees (w ∷ ws) = paths_waiting texts trees ws ++ paths_of texts trees w

-- the paths of a walk, and then of those that wait
abbrev pub paths_left : List TestText → List (Tree ℕ) → Walk → List Walk → List (List Branch)
paths_left texts trees w ws = paths_of texts trees w ++ paths_waiting texts trees ws

-- a walk branched, and goes on at a line
pub record Went (old new : Walk) (b : Branch) (at : ℕ) : Type 0 where
  pub to : new.at ≡ at
  pub same : known_seen new.known ≡ known_seen old.known
  pub more : map branch_seen new.branches.items ≡ map branch_seen old.branches.items ++ b ∷ []

-- one walk more waits
abbrev pub Waits : List Branch → Marks → ℕ → (old new : List Walk) → Type 0
Waits bs m at old new =
    (texts : List TestText) (trees : List (Tree ℕ)) →
    paths_waiting texts trees new ≡ paths_at texts trees bs m at ++ paths_waiting texts trees old

-- the paths from a test with this mark
abbrev pub test_leaves : List TestText → List (Tree ℕ) → Option Bool → NumberedTest → Marks → List (List Branch)
test_leaves texts trees mark t m =
    tested t.exchanged mark (excludes t.equals m) m (told_mark m t.number t.equals)
    (λ k. ahead Hits (leaves texts (child trees t.hit) k)) (λ k. ahead Misses (leaves texts (child trees t.miss) k))

-- a walk goes on at a test with this mark, and the other way waits
pub record TestGoesOn (mark : Option Bool) (t : NumberedTest) (old : Walk) (olds : List Walk) (new : Walk) (news : List Walk) : Type 0 where
  pub left :
      (texts : List TestText) (trees : List (Tree ℕ)) →
      paths_left texts trees new news
      ≡ behind (map branch_seen old.branches.items) (test_leaves texts trees mark t (known_seen old.known)) ++ paths_waiting texts trees olds
  pub falls : (n : ℕ) → t.hit < n → t.miss < n → new.at < n

-- a walk goes on at a line, and other ways wait
pub record GoesOn (texts : List TestText) (line : Line ℕ) (old : Walk) (olds : List Walk) (new : Walk) (news : List Walk) : Type 0 where
  pub left :
      (trees : List (Tree ℕ)) →
      paths_left texts trees new news
      ≡ behind (map branch_seen old.branches.items) (leaves texts (grown line trees) (known_seen old.known)) ++ paths_waiting texts trees olds
  pub falls : (n : ℕ) → IsBelow n line → new.at < n

-- a step at a line: the walk ends at it, or goes on
abbrev pub Steps : Bool → List TestText → Line ℕ → (old : Walk) (olds : List Walk) (new : Walk) (news : List Walk) → Type 0
Steps true texts line old olds new news = GoesOn texts line old olds new news
Steps false texts line old olds new news = (line ≡ lines.Stop) × (new ≡ old) × (news ≡ olds)

-- a step from a walk's line: the walk ends, or goes on at an earlier line, and the same paths are left
pub record WalksOn (texts : List TestText) (trees : List (Tree ℕ)) (old : Walk) (olds : List Walk) (new : Walk) (news : List Walk) : Type 0 where
  pub left : paths_left texts trees new news ≡ paths_left texts trees old olds
  pub falls : new.at < old.at

pub record WalkEnds (texts : List TestText) (trees : List (Tree ℕ)) (old : Walk) (olds : List Walk) (new : Walk) (news : List Walk) : Type 0 where
  pub same : new ≡ old
  pub others : news ≡ olds
  pub ends : paths_of texts trees old ≡ map branch_seen old.branches.items ∷ []

abbrev pub Advances : Bool → List TestText → List (Tree ℕ) → (old : Walk) (olds : List Walk) (new : Walk) (news : List Walk) → Type 0
Advances true texts trees old olds new news = WalksOn texts trees old olds new news
Advances false texts trees old olds new news = WalkEnds texts trees old olds new news

-- the paths of a walk and of those that wait, along numbered lines
abbrev pub left_along : Numbered → Walk → List Walk → List (List Branch)
left_along n w ws = paths_left (map text_seen n.texts.items) (trees [] n.lines.items) w ws

abbrev pub waiting_along : Numbered → List Walk → List (List Branch)
waiting_along n ws = paths_waiting (map text_seen n.texts.items) (trees [] n.lines.items) ws

-- the paths that begin at a line
abbrev pub paths_from : Numbered → ℕ → List (List Branch)
paths_from n at = leaves (map text_seen n.texts.items) (tree_at n.lines.items at) (nothing_known (length n.texts.items))

abbrev pub AdvancesAlong : Numbered → (old : Walk) (olds : List Walk) (new : Walk) (news : List Walk) → Bool → Type 0
AdvancesAlong n old olds new news goes = Advances goes (map text_seen n.texts.items) (trees [] n.lines.items) old olds new news
