-- A block laid out as lines.
use Rattle.std.specs.Prelude.{◌≡◌, ◌<◌, ℕ, ◌&&◌, List, [], ◌∷◌, ◌++◌, length, if◌then◌else◌}
use Rattle.nf_base.specs.Text.{Question, Get, Find, Test, Block, End, Do, Ask, Make}
use Rattle.nf_laws.specs.Paths.{of_packet}
use Rattle.path_walk.specs.declared.line.Line.{Line}
use Rattle.path_walk.specs.declared.line.Line.TheVariants as line
use Rattle.path_walk.specs.Tests.{TestText, is_exchanged}
use Rattle.path_walk.specs.Trees.{Tree, Made, text_of, ending_tree, asking, unfolded}
use Rattle.path_walk.specs.Lines.{tree_at, Keeps}

-- the line of a question
abbrev pub question_line : Question → ℕ → ℕ → Line TestText
question_line (Get place chain m key var) hit miss = line.Free hit miss
question_line (Find place chain at guards var) hit miss = line.Free hit miss
question_line (Test place c left right) hit miss =
    if of_packet left && of_packet right then line.Test (text_of c left right) (is_exchanged c) hit miss
    else line.Free hit miss

-- the tree of one statement: the end of a block goes on with `exit`, another statement with `next`
abbrev pub statement_tree : Block → (exit next : Tree TestText) → Tree TestText
statement_tree (End e) exit next = ending_tree e exit
statement_tree (Do op rest) exit next = next
statement_tree (Ask q hit miss rest) exit next = asking q (unfolded hit next) (unfolded miss next)
statement_tree (Make n made taken full rest) exit next =
    Made (unfolded made next) (unfolded taken next) (unfolded full next)

-- one line put behind those that there are
pub record IsPut (old : List (Line TestText)) (line : Line TestText) (new : List (Line TestText)) (at : ℕ) : Type 0 where
  pub behind : at ≡ length old
  pub more : new ≡ old ++ line ∷ []

-- a tree begins at a line of `new`, behind the lines of `old`
pub record IsLaidOut (old new : List (Line TestText)) (at : ℕ) (tree : Tree TestText) : Type 0 where
  pub begins : tree_at new at ≡ tree
  pub within : at < length new
  pub keeps : Keeps old new
