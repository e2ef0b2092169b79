-- The statements of a block at all depths, and how many blocks are open in one another.
use Rattle.std.specs.Prelude.{ℕ, suc, max, List, [], ◌∷◌, ◌++◌, Bool, true, false}
use Rattle.nf_base.specs.Text.{Ending, Operation, Question, Get, Find, Test, Creation, Block, End, Do, Ask, Make}

-- one statement without the blocks in it, or the end of a block
pub data Statement : Type 0 where
  Ends : Ending → Statement
  Does : Operation → Statement
  Asks : Question → Statement
  Makes : Creation → Statement

-- all statements of a block, at any depth, in text order
abbrev pub statements : Block → List Statement
statements (End e) = Ends e ∷ []
statements (Do op next) = Does op ∷ statements next
statements (Ask q hit miss next) =
    Asks q ∷ (statements hit ++ (statements miss ++ statements next))
statements (Make n made taken full next) =
    Makes n ∷ (statements made ++ (statements taken ++ (statements full ++ statements next)))

-- whether a statement makes an entry
abbrev pub is_new : Statement → Bool
is_new (Ends e) = false
is_new (Does op) = false
is_new (Asks q) = false
is_new (Makes n) = true

-- whether a question looks a key or an index up
abbrev pub is_entry_question : Question → Bool
is_entry_question (Get place chain m key var) = true
is_entry_question (Find place chain at guards var) = true
is_entry_question (Test place comparison left right) = false

-- whether a statement looks keys or an index up
abbrev pub is_lookup : Statement → Bool
is_lookup (Ends e) = false
is_lookup (Does op) = false
is_lookup (Asks q) = is_entry_question q
is_lookup (Makes n) = true

-- how many blocks are open at most, the block itself one of them
abbrev pub open_blocks : Block → ℕ
open_blocks (End e) = 1
open_blocks (Do op next) = open_blocks next
open_blocks (Ask q hit miss next) =
    max (suc (max (open_blocks hit) (open_blocks miss))) (open_blocks next)
open_blocks (Make n made taken full next) =
    max (suc (max (open_blocks made) (max (open_blocks taken) (open_blocks full)))) (open_blocks next)
