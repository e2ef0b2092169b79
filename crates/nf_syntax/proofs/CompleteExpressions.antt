-- What an expression is spelled like goes through, whatever follows that is no operator.
use Rattle.std.proofs.Common.{◌≡◌, ◌∙◌, ◌∷◌, ◌++◌, ◌-◌, ℕ, suc, false, Some, None, List, [], refl, ap, append_assoc, nat_le, ◌==◌}
use Rattle.nf_base.specs.declared.packet.Field.{Field}
use Rattle.nf_tokens.specs.declared.token.Place as places
use Rattle.nf_tokens.specs.declared.token.Sign.TheVariants as signs
use Rattle.nf_tree.specs.declared.place.Name.{Name}
use Rattle.nf_tree.specs.declared.place.Literal.{Literal}
use Rattle.nf_tree.specs.declared.tree.SumOperator.{SumOperator}
use Rattle.nf_tree.specs.declared.tree.SumOperator.TheVariants as sums
use Rattle.nf_tree.specs.declared.tree.ProductOperator.{ProductOperator}
use Rattle.nf_tree.specs.declared.tree.ProductOperator.TheVariants as products
use Rattle.nf_tree.specs.Tree.{Expression, Number, Read, Column, Index, Cell, Group, Sum, Product}
use Rattle.nf_syntax.specs.Items.{AJoin, Marked, sign, word, join}
use Rattle.nf_syntax.specs.Expressions.{Level, ASum, AProduct, AnAtom, Groups, IsValue, adding, multiplying, sum_operator, product_operator, operands, expression, value}
use Rattle.nf_syntax.specs.Machine.{Place, AtomAt, FactorsAt, TermsAt, SignAt, CloseAt, product_at, sum_at, group_at, cell_at, factor_at, term_at, value_at, go_some, step}
use Rattle.nf_syntax.proofs.Going.{goes, on_row, agree_itself, HasNoFactor, HasNoTerm, skip_factors, skip_terms}

abbrev Through : Level → Expression → Type 0
Through AnAtom e = (room n : ℕ) (k : Expression → Place) (w : List Marked) → goes (AtomAt room n k) (expression room n e ++ w) ≡ goes (k e) w
Through AProduct e = (room n : ℕ) (k : Expression → Place) (w : List Marked) → goes (product_at room n k) (expression room n e ++ w) ≡ goes (FactorsAt room n e k) w
Through ASum e = (room n : ℕ) (k : Expression → Place) (w : List Marked) → HasNoFactor w → goes (sum_at room n k) (expression room n e ++ w) ≡ goes (TermsAt room n e k) w

of_product : (e : Expression) → Through AProduct e → Through ASum e
of_product e t = λ room n k w h. t room n (λ p. TermsAt room n p k) w ∙ skip_factors room n e (λ p. TermsAt room n p k) w h

of_atom : (e : Expression) → Through AnAtom e → Through AProduct e
of_atom e t = λ room n k w. t room n (λ a. FactorsAt room n a k) w

at_level : (level : Level) (e : Expression) → Through AnAtom e → Through level e
at_level AnAtom e t = t
at_level AProduct e t = of_atom e t
at_level ASum e t = of_product e (of_atom e t)

number : (l : Literal) → Through AnAtom (Number l)
number l = λ room n k w. agree_itself (nat_le 64 n) _

read : (field : Field) (at : places.Place) → Through AnAtom (Read field at)
read field at = λ room n k w. agree_itself (nat_le 64 n) _

column : (x c : Name) → Through AnAtom (Column x c)
column x c = λ room n k w. agree_itself (nat_le 64 n) _

index : (x : Name) → Through AnAtom (Index x)
index x = λ room n k w. agree_itself (nat_le 64 n) _

-- an inner expression, up to what closes it
inner : (e : Expression) → Through ASum e → (room n : ℕ) (k : Expression → Place) (w : List Marked) → HasNoFactor w → HasNoTerm w → goes (sum_at room n k) (expression room n e ++ w) ≡ goes (k e) w
inner e t room n k w f h = t room n k w f ∙ skip_terms room n e k w h

cell : (x : Name) (i : Expression) → Through ASum i → Through AnAtom (Cell x i)
cell x i t = λ room n k w.
    let k1 = λ (j : Expression). SignAt signs.CloseBracket (k (Cell x j)) in
    agree_itself (nat_le 64 n) _ ∙ agree_itself (room == 0) _
    ∙ ap (goes (cell_at room n x k)) (append_assoc (expression (room - 1) (suc n) i) (sign signs.CloseBracket ∷ []) w)
    ∙ inner i t (room - 1) (suc n) k1 (sign signs.CloseBracket ∷ w) tt tt

group : (e : Expression) (close : places.Place) → Through ASum e → Through AnAtom (Group e close)
group e close t = λ room n k w.
    let k1 = λ (j : Expression). CloseAt (λ p. k (Group j p)) in
    agree_itself (room == 0) _
    ∙ ap (goes (group_at room n k)) (append_assoc (expression (room - 1) n e) (word signs.CloseParenthesis close ∷ []) w)
    ∙ inner e t (room - 1) n k1 (word signs.CloseParenthesis close ∷ w) tt tt

added : (op : SumOperator) → sum_operator (adding op) ≡ Some op
added sums.Plus = refl
added sums.Minus = refl

not_multiplied : (op : SumOperator) → product_operator (adding op) ≡ None
not_multiplied sums.Plus = refl
not_multiplied sums.Minus = refl

multiplied : (op : ProductOperator) → product_operator (multiplying op) ≡ Some op
multiplied products.Times = refl
multiplied products.Over = refl
multiplied products.Modulo = refl
multiplied products.And = refl

took_term : (room n : ℕ) (e : Expression) (k : Expression → Place) (op : SumOperator) (ms : List Marked) → goes (TermsAt room n e k) (join (adding op) ∷ ms) ≡ goes (term_at room n e k op) ms
took_term room n e k op ms = ap (λ o. on_row (go_some o (term_at room n e k) (step (k e) (AJoin (adding op)))) false (λ next. goes next ms)) (added op)

took_factor : (room n : ℕ) (e : Expression) (k : Expression → Place) (op : ProductOperator) (ms : List Marked) → goes (FactorsAt room n e k) (join (multiplying op) ∷ ms) ≡ goes (factor_at room n e k op) ms
took_factor room n e k op ms = ap (λ o. on_row (go_some o (factor_at room n e k) (step (k e) (AJoin (multiplying op)))) false (λ next. goes next ms)) (multiplied op)

sum : (op : SumOperator) (l r : Expression) → Through ASum l → Through AProduct r → Through ASum (Sum op l r)
sum op l r tl tr = λ room n k w h.
    let m = operands n l in
    let k1 = λ (p : Expression). TermsAt room n (Sum op l p) k in
    ap (goes (sum_at room n k)) (append_assoc (expression room n l) (join (adding op) ∷ expression room m r) w)
    ∙ tl room n k (join (adding op) ∷ (expression room m r ++ w)) (not_multiplied op)
    ∙ took_term room n l k op (expression room m r ++ w)
    ∙ tr room m k1 w ∙ skip_factors room m r k1 w h

product : (op : ProductOperator) (l r : Expression) → Through AProduct l → Through AnAtom r → Through AProduct (Product op l r)
product op l r tl tr = λ room n k w.
    let m = operands n l in
    ap (goes (product_at room n k)) (append_assoc (expression room n l) (join (multiplying op) ∷ expression room m r) w)
    ∙ tl room n k (join (multiplying op) ∷ (expression room m r ++ w))
    ∙ took_factor room n l k op (expression room m r ++ w)
    ∙ tr room m (λ a. FactorsAt room n (Product op l a) k) w

through : (level : Level) (e : Expression) → Groups level e → Through level e
through level (Number l) g = at_level level (Number l) (number l)
through level (Read field at) g = at_level level (Read field at) (read field at)
through level (Column x c) g = at_level level (Column x c) (column x c)
through level (Index x) g = at_level level (Index x) (index x)
through level (Cell x i) g = at_level level (Cell x i) (cell x i (through ASum i g))
through level (Group e close) g = at_level level (Group e close) (group e close (through ASum e g))
through ASum (Sum op l r) g = sum op l r (through ASum l g.0) (through AProduct r g.1)
through AProduct (Sum op l r) g = absurd g
through AnAtom (Sum op l r) g = absurd g
through ASum (Product op l r) g = of_product (Product op l r) (product op l r (through AProduct l g.0) (through AnAtom r g.1))
through AProduct (Product op l r) g = product op l r (through AProduct l g.0) (through AnAtom r g.1)
through AnAtom (Product op l r) g = absurd g

pub one_value : (v : Expression) → IsValue v → (k : Expression → Place) (w : List Marked) → HasNoFactor w → HasNoTerm w → goes (value_at k) (value v ++ w) ≡ goes (k v) w
one_value v g k w f h = inner v (through ASum v g) 32 0 k w f h
