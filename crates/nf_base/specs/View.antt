-- What the declared types of a function's text stand for.
use Rattle.std.specs.Prelude.{map}
use Rattle.nf_base.specs.declared.expr.Expr as expr
use Rattle.nf_base.specs.declared.expr.Given as given
use Rattle.nf_base.specs.declared.expr.Guard as guard
use Rattle.nf_base.specs.declared.block.Ending.TheVariants as ending
use Rattle.nf_base.specs.declared.block.Ending as endings
use Rattle.nf_base.specs.declared.block.Operation.TheVariants as operation
use Rattle.nf_base.specs.declared.block.Operation as operations
use Rattle.nf_base.specs.declared.block.Question.TheVariants as question
use Rattle.nf_base.specs.declared.block.Question as questions
use Rattle.nf_base.specs.declared.block.Creation as creation
use Rattle.nf_base.specs.declared.block.Block as block
use Rattle.nf_base.specs.Text.{Expression, Number, Read, Index, Label, Column, Cell, Both, Given, Guard, Ending, FallsOff, Forward, Flood, Discard, Operation, Touch, Free, Set, Write, Store, Question, Get, Find, Test, Creation, Block, End, Do, Ask, Make}

-- an expression
abbrev pub expression_of : expr.Expr → Expression
expression_of (expr.Number n) = Number n
expression_of (expr.Read field) = Read field
expression_of (expr.Index var) = Index var
expression_of (expr.Label var label) = Label var label
expression_of (expr.Column var column) = Column var column
expression_of (expr.Cell' place array pa at) = Cell place array (expression_of at)
expression_of (expr.Both' operator pl left pr right) =
    Both operator (expression_of left) (expression_of right)

-- a value with its width
abbrev pub given_of : given.Given → Given
given_of g = record { width = g.width; value = expression_of g.value }

-- a label of a `find`
abbrev pub guard_of : guard.Guard → Guard
guard_of g = record { label = g.label; given = given_of g.given }

-- an end
abbrev pub ending_of : endings.Ending → Ending
ending_of ending.FallsOff = FallsOff
ending_of (ending.Forward port) = Forward (expression_of port)
ending_of ending.Flood = Flood
ending_of ending.Discard = Discard

-- an operation
abbrev pub operation_of : operations.Operation → Operation
operation_of (operation.Touch var) = Touch var
operation_of (operation.Free var) = Free var
operation_of (operation.Set field g) = Set field (given_of g)
operation_of (operation.Write var column g) = Write var column (given_of g)
operation_of (operation.Store place array at g) = Store place array (expression_of at) (given_of g)

-- a question
abbrev pub question_of : questions.Question → Question
question_of (question.Get place chain m key var) = Get place chain m (map given_of key) var
question_of (question.Find place chain at guards var) =
    Find place chain (expression_of at) (map guard_of guards) var
question_of (question.Test place comparison left right) =
    Test place comparison (expression_of left) (expression_of right)

-- a `new`
abbrev pub creation_of : creation.Creation → Creation
creation_of n =
    record { place = n.place; chain = n.chain; labels = map given_of n.labels; var = n.var }

-- a block
abbrev pub block_of : block.Block → Block
block_of (block.End ending) = End (ending_of ending)
block_of (block.Do' operation pn next) = Do (operation_of operation) (block_of next)
block_of (block.Ask' question ph hit pm miss pn next) =
    Ask (question_of question) (block_of hit) (block_of miss) (block_of next)
block_of (block.Make' creation pm made pt taken pf full pn next) =
    Make (creation_of creation) (block_of made) (block_of taken) (block_of full) (block_of next)
