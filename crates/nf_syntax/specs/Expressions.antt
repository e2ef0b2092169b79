-- The grammar of expressions: sums of products of atoms, at most 32 signs `(` and `[` open, at most 64 operands.
use Rattle.std.specs.Prelude.{ℕ, suc, ◌-◌, Option, Some, None, List, [], ◌∷◌, ◌++◌}
use Rattle.nf_tokens.specs.declared.token.Sign.{Sign}
use Rattle.nf_tokens.specs.declared.token.Sign.TheVariants as signs
use Rattle.nf_tree.specs.declared.tree.SumOperator.{SumOperator}
use Rattle.nf_tree.specs.declared.tree.SumOperator.TheVariants as sums
use Rattle.nf_tree.specs.declared.tree.ProductOperator.{ProductOperator}
use Rattle.nf_tree.specs.declared.tree.ProductOperator.TheVariants as products
use Rattle.nf_tree.specs.Tree.{Expression, Number, Read, Column, Index, Cell, Group, Sum, Product}
use Rattle.nf_syntax.specs.Items.{Marked, AName, ANumber, AField, sign, word, join, name, opening, operand}

pub data Level : Type 0 where
  ASum : Level
  AProduct : Level
  AnAtom : Level

-- operators of one level group from the left, and products before sums
abbrev pub Groups : Level → Expression → Type 0
Groups level (Number n) = Unit {0}
Groups level (Read field at) = Unit {0}
Groups level (Column x c) = Unit {0}
Groups level (Index x) = Unit {0}
Groups level (Cell x i) = Groups ASum i
Groups level (Group e close) = Groups ASum e
Groups ASum (Sum op l r) = Groups ASum l × Groups AProduct r
Groups level (Sum op l r) = ⊥
Groups AnAtom (Product op l r) = ⊥
Groups level (Product op l r) = Groups AProduct l × Groups AnAtom r

abbrev pub IsValue : Expression → Type 0
IsValue e = Groups ASum e

abbrev pub adding : SumOperator → Sign
adding sums.Plus = signs.Plus
adding sums.Minus = signs.Minus

abbrev pub multiplying : ProductOperator → Sign
multiplying products.Times = signs.Times
multiplying products.Over = signs.Over
multiplying products.Modulo = signs.Modulo
multiplying products.And = signs.And

-- which operator a sign is
abbrev pub sum_operator : Sign → Option SumOperator
sum_operator signs.Plus = Some sums.Plus
sum_operator signs.Minus = Some sums.Minus
sum_operator s = None

abbrev pub product_operator : Sign → Option ProductOperator
product_operator signs.Times = Some products.Times
product_operator signs.Over = Some products.Over
product_operator signs.Modulo = Some products.Modulo
product_operator signs.And = Some products.And
product_operator s = None

-- how many operands stand up to the end of an expression with so many before it: atoms that are no parentheses;
-- an array is one, and what is in its index counts too
abbrev pub operands : ℕ → Expression → ℕ
operands n (Number l) = suc n
operands n (Read field at) = suc n
operands n (Column x c) = suc n
operands n (Index x) = suc n
operands n (Cell x i) = operands (suc n) i
operands n (Group e close) = operands n e
operands n (Sum op l r) = operands (operands n l) r
operands n (Product op l r) = operands (operands n l) r

-- the tokens of an expression, where so many more signs `(` and `[` may be open, and so many operands stand before it
abbrev pub expression : ℕ → ℕ → Expression → List Marked
expression room n (Number l) = operand n (ANumber l) ∷ []
expression room n (Read field at) = operand n (AField field at) ∷ []
expression room n (Column x c) = operand n (AName x) ∷ sign signs.Dot ∷ name c ∷ []
expression room n (Index x) = operand n (AName x) ∷ sign signs.Dot ∷ sign signs.Index ∷ []
expression room n (Cell x i) = operand n (AName x) ∷ opening signs.OpenBracket room ∷ (expression (room - 1) (suc n) i ++ sign signs.CloseBracket ∷ [])
expression room n (Group e close) = opening signs.OpenParenthesis room ∷ (expression (room - 1) n e ++ word signs.CloseParenthesis close ∷ [])
expression room n (Sum op l r) = expression room n l ++ join (adding op) ∷ expression room (operands n l) r
expression room n (Product op l r) = expression room n l ++ join (multiplying op) ∷ expression room (operands n l) r

-- an outermost expression
abbrev pub value : Expression → List Marked
value e = expression 32 0 e
