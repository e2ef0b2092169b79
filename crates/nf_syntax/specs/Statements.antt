-- A statement apart from its blocks, and a block that is built along its text.
use Rattle.nf_tree.specs.Tree.{Ending, Operation, Question, Creation, Block, End, Do, Ask, Make}
use Rattle.nf_tree.specs.View.{ending_of, operation_of, question_of, creation_of}
use Rattle.nf_syntax.specs.declared.statement.Statement as declared_statement
use Rattle.nf_syntax.specs.declared.statement.Statement.TheVariants as statements

-- what a statement says, and an end
pub data Statement : Type 0 where
  Does : Operation → Statement
  Asks : Question → Statement
  Makes : Creation → Statement
  Ends : Ending → Statement

-- a statement, as it is written
abbrev pub statement_of : declared_statement.Statement → Statement
statement_of (statements.Does o) = Does (operation_of o)
statement_of (statements.Asks q) = Asks (question_of q)
statement_of (statements.Makes n) = Makes (creation_of n)
statement_of (statements.Ends e) = Ends (ending_of e)

-- statements that stand last first, in their order and in front of a block
abbrev pub turned : Block → Block → Block
turned (End e) block = block
turned (Do o before) block = turned before (Do o block)
turned (Ask q hit miss before) block = turned before (Ask q hit miss block)
turned (Make n made taken full before) block = turned before (Make n made taken full block)
