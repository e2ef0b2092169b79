-- The tree of a text, without where its blocks lie in memory. Each name, number, field and word
-- that begins something has its place in the text.
use Rattle.std.specs.Prelude.{List}
use Rattle.nf_base.specs.declared.expr.Comparison.{Comparison}
use Rattle.nf_base.specs.declared.packet.Field.{Field}
use Rattle.nf_base.specs.declared.packet.Family.{Family}
use Rattle.nf_tokens.specs.declared.token.Place.{Place}
use Rattle.nf_tree.specs.declared.place.Name.{Name}
use Rattle.nf_tree.specs.declared.place.Literal.{Literal}
use Rattle.nf_tree.specs.declared.tree.SumOperator.{SumOperator}
use Rattle.nf_tree.specs.declared.tree.ProductOperator.{ProductOperator}
use Rattle.nf_tree.specs.declared.tree.Declaration.{Declaration}

-- a value of a handler's text
pub data Expression : Type 0 where
  Number : Literal → Expression
  Read : (field : Field) (place : Place) → Expression
  Column : (variable column : Name) → Expression
  Index : (variable : Name) → Expression
  Cell : (array : Name) (index : Expression) → Expression
  Group : (inner : Expression) (close : Place) → Expression
  Sum : (operator : SumOperator) (left right : Expression) → Expression
  Product : (operator : ProductOperator) (left right : Expression) → Expression

-- a value that is given to a name
pub record Given : Type 0 where
  pub name : Name
  pub value : Expression

-- the values that a `find` asks of labels; none where no `where` is written
pub data Guards : Type 0 where
  Unguarded : Guards
  Where : (given : List Given) (close : Place) → Guards

-- how a block ends; one that may be left out and is not written is Missing
pub data Ending : Type 0 where
  FallsOff Missing Flood Discard : Ending
  Forward : (port : Expression) → Ending

-- a statement with no block of its own
pub data Operation : Type 0 where
  Touch : (variable : Name) → Operation
  Free : (place : Place) (variable : Name) → Operation
  Set : (field : Field) (place : Place) (value : Expression) → Operation
  Write : (variable column : Name) (value : Expression) → Operation
  Store : (array : Name) (index value : Expression) → Operation

-- what a statement with two blocks asks
pub data Question : Type 0 where
  Get : (place : Place) (variable chain map : Name) (key : List Expression) (close : Place)
      → Question
  Find : (place : Place) (variable chain : Name) (index : Expression) (guards : Guards) → Question
  Test : (left : Expression) (comparison : Comparison) (right : Expression) → Question

-- the entry that a `new` makes, with values for labels
pub record Creation : Type 0 where
  pub place : Place
  pub variable : Name
  pub chain : Name
  pub given : List Given
  pub close : Place

-- statements, each with the blocks in it, and an end
pub data Block : Type 0 where
  End : Ending → Block
  Do : Operation → (next : Block) → Block
  Ask : Question → (hit miss next : Block) → Block
  Make : Creation → (made taken full next : Block) → Block

-- a handler of a port for a family; its place is that of its word
pub record Handler : Type 0 where
  pub place : Place
  pub port : Literal
  pub family : Family
  pub block : Block

-- a whole text; its end is where its last brace stands
pub record Tree : Type 0 where
  pub name : Name
  pub ports : Literal
  pub declarations : List Declaration
  pub handlers : List Handler
  pub end : Place
