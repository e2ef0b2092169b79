-- A network function's text, as the definitions see it: the declared `Func` without its boxes.
use Rattle.std.specs.Prelude.{ℕ, List, Option}
use Rattle.nf_base.specs.declared.packet.Field.{Field}
use Rattle.nf_base.specs.declared.width.Width.{Width}
use Rattle.nf_base.specs.declared.expr.Operator.{Operator}
use Rattle.nf_base.specs.declared.expr.Comparison.{Comparison}
use Rattle.nf_base.specs.declared.decl.ObjectId.{ObjectId}
use Rattle.nf_base.specs.declared.decl.ChainDecl.{ChainDecl}
use Rattle.nf_base.specs.declared.decl.ArrayDecl.{ArrayDecl}

-- a value of a handler's text
pub data Expression : Type 0 where
  Number : ℕ → Expression
  Read : Field → Expression
  Index : (var : ℕ) → Expression
  Label : (var label : ℕ) → Expression
  Column : (var column : ℕ) → Expression
  Cell : (place array : ℕ) (at : Expression) → Expression
  Both : Operator → (left right : Expression) → Expression

-- a value with the width of what it is given to
pub record Given : Type 0 where
  pub width : Width
  pub value : Expression

-- a label of a `find` with the value that it has to have
pub record Guard : Type 0 where
  pub label : ℕ
  pub given : Given

-- how a block ends
pub data Ending : Type 0 where
  FallsOff Flood Discard : Ending
  Forward : Expression → Ending

-- a statement with no block of its own
pub data Operation : Type 0 where
  Touch Free : (var : ℕ) → Operation
  Set : Field → Given → Operation
  Write : (var column : ℕ) → Given → Operation
  Store : (place array : ℕ) (at : Expression) → Given → Operation

-- what a statement with two blocks asks
pub data Question : Type 0 where
  Get : (place chain m : ℕ) (key : List Given) (var : ℕ) → Question
  Find : (place chain : ℕ) (at : Expression) (guards : List Guard) (var : ℕ) → Question
  Test : (place : ℕ) → Comparison → (left right : Expression) → Question

-- the entry that a `new` makes: a value for each label of its chain
pub record Creation : Type 0 where
  pub place : ℕ
  pub chain : ℕ
  pub labels : List Given
  pub var : ℕ

-- statements, each with the blocks in it, and an end
pub data Block : Type 0 where
  End : Ending → Block
  Do : Operation → (next : Block) → Block
  Ask : Question → (hit miss next : Block) → Block
  Make : Creation → (made taken full next : Block) → Block

-- a port's handlers: for IPv4, and for IPv6 where it has one
pub record PortBlocks : Type 0 where
  pub four : Block
  pub six : Option Block

-- a checked function: its declarations, its objects in text order, and the handlers of each port
pub record Function : Type 0 where
  pub name : List ℕ
  pub chains : List ChainDecl
  pub arrays : List ArrayDecl
  pub objects : List ObjectId
  pub handlers : List PortBlocks
