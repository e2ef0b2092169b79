-- Paths that have come to a tree, by what their tests said, and how they go on.
use Rattle.std.specs.Prelude.{◌≡◌, ◌<◌, ℕ, suc, Bool, true, false, not, List, [], ◌∷◌, ◌++◌, length, map, Option, Some, None, if◌then◌else◌}
use Rattle.std.specs.List.{flat_map}
use Rattle.std.specs.Global.{Box}
use Rattle.nf_base.specs.Text.{Question, Block}
use Rattle.nf_base.specs.Statements.{Statement, Ends, Does, Asks, Makes, statements}
use Rattle.nf_base.specs.Paths.{Branch}
use Rattle.path_walk.specs.declared.line.Line.{Line}
use Rattle.path_walk.specs.declared.line.Line.TheVariants as line
use Rattle.path_walk.specs.declared.known.Known.{Known}
use Rattle.path_walk.specs.declared.ways.Asked.{Asked}
use Rattle.path_walk.specs.Tests.{TestText, same_text}
use Rattle.path_walk.specs.Feasible.{differ}
use Rattle.path_walk.specs.Trees.{Tree, unfolded, tree_map}
use Rattle.path_walk.specs.Layout.{question_line}
use Rattle.path_walk.specs.Numbering.{text_at}
use Rattle.path_walk.specs.Known.{Marks, known_seen, mark_at, excludes, told_mark}
use Rattle.path_walk.specs.Walks.{leaves}

-- the number of a text among some, or how many they are where it is none of them
abbrev pub number_in : List TestText → TestText → ℕ
number_in [] x = 0
number_in (t ∷ ts) x = if same_text t x then 0 else suc (number_in ts x)

-- how a path may go on along a tree, by what is known of it
abbrev pub ahead_of : List TestText → Tree TestText → Marks → List (List Branch)
ahead_of texts t m = leaves texts (tree_map (number_in texts) t) m

-- how some paths may go on
abbrev pub all_ahead : List TestText → Tree TestText → List Marks → List (List Branch)
all_ahead texts t ms = flat_map (ahead_of texts t) ms

-- one, where it is so
abbrev pub one_if : {A : Type 0} → Bool → A → List A
one_if true x = x ∷ []
one_if false x = []

-- whether a test goes a way, hit or miss, that hits so
abbrev pub is_way : Bool → Bool → Bool
is_way true hits = hits
is_way false hits = not hits

-- What is known of a path behind a test that goes a way, hit or miss, where it may: by its mark, and
-- by whether its field is known to be another number.
abbrev pub behind_way : Bool → Bool → Option Bool → Bool → Marks → (Bool → Marks) → List Marks
behind_way exchanged way (Some holds) other m told = one_if (is_way way (differ exchanged holds)) m
behind_way exchanged way None true m told = one_if (is_way way (differ exchanged false)) (told false)
behind_way exchanged way None false m told = told (differ exchanged way) ∷ []

-- the same of a test with its number
abbrev pub behind_test : Asked → Bool → Marks → List Marks
behind_test t way m =
    behind_way t.exchanged way (mark_at m t.number) (excludes t.equals m) m (told_mark m t.number t.equals)

-- what is known, behind a pointer
abbrev pub known_in : Box Known → Marks
known_in b = known_seen b.value

abbrev pub all_known : List (Box Known) → List Marks
all_known bs = map known_in bs

-- a text is one of some
pub record HasText (texts : List TestText) (x : TestText) : Type 0 where
  pub number : ℕ
  pub within : number < length texts
  pub at : text_at texts number ≡ x

abbrev pub IsIn : List TestText → Option TestText → Type 0
IsIn texts None = Unit {0}
IsIn texts (Some x) = HasText texts x

-- texts stand behind others, and one is among them, where there is one
pub record IsAdded (old new : List TestText) (x : Option TestText) : Type 0 where
  pub more : List TestText
  pub behind : new ≡ old ++ more
  pub has : IsIn new x

-- the text of a line, where it is a test of the packet alone
abbrev pub test_in : {A : Type 0} → Line A → Option A
test_in line.Stop = None
test_in (line.Free hit miss) = None
test_in (line.Test test exchanged hit miss) = Some test
test_in (line.Make made taken full) = None

-- and of a question, and a statement
abbrev pub text_asked : Question → Option TestText
text_asked q = test_in (question_line q 0 0)

abbrev pub text_in : Statement → Option TestText
text_in (Ends e) = None
text_in (Does op) = None
text_in (Asks q) = text_asked q
text_in (Makes n) = None

-- the texts of all tests of some statements are among some
abbrev pub AreIn : List TestText → List Statement → Type 0
AreIn texts [] = Unit {0}
AreIn texts (s ∷ ss) = IsIn texts (text_in s) × AreIn texts ss

-- the tree of what is left of a block, in front of another
abbrev pub rest_tree : Option Block → Tree TestText → Tree TestText
rest_tree None t = t
rest_tree (Some b) t = unfolded b t

-- and its statements
abbrev pub rest_statements : Option Block → List Statement
rest_statements None = []
rest_statements (Some b) = statements b
