-- What goes through is spelled so: expressions.
use Rattle.std.proofs.Common.{◌≡◌, ◌∷◌, ◌++◌, ◌<◌, ◌-◌, ◌==◌, nat_le, ℕ, zero, suc, Bool, true, false, Option, Some, None, List, [], length, refl, ap, sym, subst, append_assoc, arith}
use Rattle.nf_tokens.specs.declared.token.Sign.{Sign}
use Rattle.nf_tokens.specs.declared.token.Sign.TheVariants as signs
use Rattle.nf_tree.specs.declared.place.Name.{Name}
use Rattle.nf_tree.specs.declared.tree.SumOperator.{SumOperator}
use Rattle.nf_tree.specs.declared.tree.SumOperator.TheVariants as sum_operators
use Rattle.nf_tree.specs.declared.tree.ProductOperator.{ProductOperator}
use Rattle.nf_tree.specs.declared.tree.ProductOperator.TheVariants as product_operators
use Rattle.nf_tree.specs.Tree.{Tree, Expression, Number, Read, Column, Index, Cell, Group, Sum, Product}
use Rattle.nf_syntax.specs.Items.{Item, AName, ANumber, AField, ASign, AJoin, Marked, name, sign, word, join, opening, operand}
use Rattle.nf_syntax.specs.Expressions.{Level, ASum, AProduct, AnAtom, Groups, IsValue, adding, multiplying, sum_operator, product_operator, operands, expression, value}
use Rattle.nf_syntax.specs.Machine.{Place, AtomAt, NamedAt, ColumnAt, FactorsAt, TermsAt, SignAt, CloseAt, product_at, sum_at, group_at, cell_at, factor_at, term_at, value_at, go_some, step}
use Rattle.nf_syntax.specs.Language.{Spells}
use Rattle.nf_syntax.proofs.Going.{goes, on_row}
use Rattle.nf_syntax.proofs.SoundTokens.{Good, mark, front, front_marked, less, moved, good_sign, good_close, same_some}

abbrev Ends : Level → ℕ → ℕ → ℕ → List Marked → (Expression → Place) → Type 0
Ends level n room m seen k = (e : Expression) → Groups level e → Good n (seen ++ expression room m e) (k e)

abbrev Atoms : ℕ → Type 0
Atoms n = (room m : ℕ) (seen : List Marked) (k : Expression → Place) → Ends AnAtom n room m seen k → Good n seen (AtomAt room m k)

abbrev Factors : ℕ → Type 0
Factors n = (room m : ℕ) (seen : List Marked) (e : Expression) (k : Expression → Place) → Groups AProduct e → Ends AProduct n room m seen k → Good n (seen ++ expression room m e) (FactorsAt room m e k)

abbrev Terms : ℕ → Type 0
Terms n = (room m : ℕ) (seen : List Marked) (e : Expression) (k : Expression → Place) → Groups ASum e → Ends ASum n room m seen k → Good n (seen ++ expression room m e) (TermsAt room m e k)

record All (n : ℕ) : Type 0 where
  atoms : Atoms n
  factors : Factors n
  terms : Terms n

is_product : (e : Expression) → Groups AnAtom e → Groups AProduct e
is_product (Number l) g = g
is_product (Read field at) g = g
is_product (Column x c) g = g
is_product (Index x) g = g
is_product (Cell x i) g = g
is_product (Group e close) g = g
is_product (Sum op l r) g = absurd g
is_product (Product op l r) g = absurd g

is_sum : (e : Expression) → Groups AProduct e → Groups ASum e
is_sum (Number l) g = g
is_sum (Read field at) g = g
is_sum (Column x c) g = g
is_sum (Index x) g = g
is_sum (Cell x i) g = g
is_sum (Group e close) g = g
is_sum (Sum op l r) g = absurd g
is_sum (Product op l r) g = g

products : (n : ℕ) → All n → (room m : ℕ) (seen : List Marked) (k : Expression → Place) → Ends AProduct n room m seen k → Good n seen (product_at room m k)
products n all room m seen k f = all.atoms room m seen (λ a. FactorsAt room m a k) (λ e g. all.factors room m seen e k (is_product e g) f)

sums : (n : ℕ) → All n → (room m : ℕ) (seen : List Marked) (k : Expression → Place) → Ends ASum n room m seen k → Good n seen (sum_at room m k)
sums n all room m seen k f = products n all room m seen (λ p. TermsAt room m p k) (λ e g. all.terms room m seen e k (is_sum e g) f)

closed : (s x : List Marked) (o c : Marked) → s ++ (o ∷ (x ++ c ∷ [])) ≡ ((s ++ o ∷ []) ++ x) ++ c ∷ []
closed s x o c = simp append_assoc

celled : (s x : List Marked) (a o c : Marked) → s ++ (a ∷ o ∷ (x ++ c ∷ [])) ≡ (((s ++ a ∷ []) ++ o ∷ []) ++ x) ++ c ∷ []
celled s x a o c = simp append_assoc

three : (s : List Marked) (x y z : Marked) → s ++ x ∷ y ∷ z ∷ [] ≡ ((s ++ x ∷ []) ++ y ∷ []) ++ z ∷ []
three s x y z = simp append_assoc

joined : (s x y : List Marked) (o : Marked) → s ++ (x ++ o ∷ y) ≡ ((s ++ x) ++ o ∷ []) ++ y
joined s x y o = simp append_assoc

good_group : (n : ℕ) → All n → (room m : ℕ) (seen : List Marked) (k : Expression → Place) → Ends AnAtom n room m seen k → Good n (seen ++ opening signs.OpenParenthesis room ∷ []) (group_at room m k)
good_group n all room m seen k f =
    let s1 = seen ++ opening signs.OpenParenthesis room ∷ [] in
    sums n all (room - 1) m s1 (λ e. CloseAt (λ p. k (Group e p))) (λ e g.
    let s2 = s1 ++ expression (room - 1) m e in
    good_close n s2 (λ p. k (Group e p)) (λ p.
    moved n (seen ++ expression room m (Group e p)) (s2 ++ word signs.CloseParenthesis p ∷ []) (k (Group e p))
    (closed seen (expression (room - 1) m e) (opening signs.OpenParenthesis room) (word signs.CloseParenthesis p)) (f (Group e p) g)))

good_cell : (n : ℕ) → All n → (room m : ℕ) (seen : List Marked) (x : Name) (k : Expression → Place) → Ends AnAtom n room m seen k →
    Good n ((seen ++ operand m (AName x) ∷ []) ++ opening signs.OpenBracket room ∷ []) (cell_at room m x k)
good_cell n all room m seen x k f =
    let s1 = (seen ++ operand m (AName x) ∷ []) ++ opening signs.OpenBracket room ∷ [] in
    sums n all (room - 1) (suc m) s1 (λ i. SignAt signs.CloseBracket (k (Cell x i))) (λ i g.
    let s2 = s1 ++ expression (room - 1) (suc m) i in
    good_sign n s2 signs.CloseBracket (k (Cell x i)) (
    moved n (seen ++ expression room m (Cell x i)) (s2 ++ sign signs.CloseBracket ∷ []) (k (Cell x i))
    (celled seen (expression (room - 1) (suc m) i) (operand m (AName x)) (opening signs.OpenBracket room) (sign signs.CloseBracket)) (f (Cell x i) g)))

column_token : (n room m : ℕ) (seen : List Marked) (x : Name) (k : Expression → Place) → Ends AnAtom n room m seen k →
    (t : Item) (past : Bool) (ms : List Marked) (tree : Tree) → length ms < n → goes (ColumnAt x k) (mark t past ∷ ms) ≡ Some tree →
    Spells (((seen ++ operand m (AName x) ∷ []) ++ sign signs.Dot ∷ []) ++ mark t past ∷ ms) tree
column_token n room m seen x k f (AName c) false ms tree few h =
    let s = (seen ++ operand m (AName x) ∷ []) ++ sign signs.Dot ∷ [] in
    front n s (name c) (k (Column x c)) (moved n (seen ++ expression room m (Column x c)) (s ++ name c ∷ []) (k (Column x c))
    (three seen (operand m (AName x)) (sign signs.Dot) (name c)) (f (Column x c) tt)) ms tree few h
column_token n room m seen x k f (ASign signs.Index) false ms tree few h =
    let s = (seen ++ operand m (AName x) ∷ []) ++ sign signs.Dot ∷ [] in
    front n s (sign signs.Index) (k (Index x)) (moved n (seen ++ expression room m (Index x)) (s ++ sign signs.Index ∷ []) (k (Index x))
    (three seen (operand m (AName x)) (sign signs.Dot) (sign signs.Index)) (f (Index x) tt)) ms tree few h
column_token n room m seen x k f t past ms tree few h = absurd cc

good_column : (n room m : ℕ) (seen : List Marked) (x : Name) (k : Expression → Place) → Ends AnAtom n room m seen k →
    (ms : List Marked) (tree : Tree) → length ms < n → goes (ColumnAt x k) ms ≡ Some tree → Spells (((seen ++ operand m (AName x) ∷ []) ++ sign signs.Dot ∷ []) ++ ms) tree
good_column n room m seen x k f [] tree few h = absurd cc
good_column n room m seen x k f (i ∷ ms) tree few h = column_token n room m seen x k f i.item i.past ms tree (omega arith) h

named_token : (n : ℕ) → All n → (room m : ℕ) (seen : List Marked) (x : Name) (k : Expression → Place) → Ends AnAtom n room m seen k →
    (t : Item) (past : Bool) (ms : List Marked) (tree : Tree) → length ms < n → goes (NamedAt room m x k) (mark t past ∷ ms) ≡ Some tree → Spells ((seen ++ operand m (AName x) ∷ []) ++ mark t past ∷ ms) tree
named_token n all room m seen x k f (ASign signs.Dot) false ms tree few h =
    front n (seen ++ operand m (AName x) ∷ []) (sign signs.Dot) (ColumnAt x k) (good_column n room m seen x k f) ms tree few h
named_token n all room m seen x k f (ASign signs.OpenBracket) past ms tree few h =
    front_marked n (seen ++ operand m (AName x) ∷ []) (ASign signs.OpenBracket) (room == 0) past (cell_at room m x k) (good_cell n all room m seen x k f) ms tree few h
named_token n all room m seen x k f t past ms tree few h = absurd cc

good_named : (n : ℕ) → All n → (room m : ℕ) (seen : List Marked) (x : Name) (k : Expression → Place) → Ends AnAtom n room m seen k →
    (ms : List Marked) (tree : Tree) → length ms < n → goes (NamedAt room m x k) ms ≡ Some tree → Spells ((seen ++ operand m (AName x) ∷ []) ++ ms) tree
good_named n all room m seen x k f [] tree few h = absurd cc
good_named n all room m seen x k f (i ∷ ms) tree few h = named_token n all room m seen x k f i.item i.past ms tree (omega arith) h

atom_token : (n : ℕ) → All n → (room m : ℕ) (seen : List Marked) (k : Expression → Place) → Ends AnAtom n room m seen k →
    (t : Item) (past : Bool) (ms : List Marked) (tree : Tree) → length ms < n → goes (AtomAt room m k) (mark t past ∷ ms) ≡ Some tree → Spells (seen ++ mark t past ∷ ms) tree
atom_token n all room m seen k f (ANumber l) past ms tree few h = front_marked n seen (ANumber l) (nat_le 64 m) past (k (Number l)) (f (Number l) tt) ms tree few h
atom_token n all room m seen k f (AField field at) past ms tree few h = front_marked n seen (AField field at) (nat_le 64 m) past (k (Read field at)) (f (Read field at) tt) ms tree few h
atom_token n all room m seen k f (AName x) past ms tree few h = front_marked n seen (AName x) (nat_le 64 m) past (NamedAt room m x k) (good_named n all room m seen x k f) ms tree few h
atom_token n all room m seen k f (ASign signs.OpenParenthesis) past ms tree few h = front_marked n seen (ASign signs.OpenParenthesis) (room == 0) past (group_at room m k) (good_group n all room m seen k f) ms tree few h
atom_token n all room m seen k f t past ms tree few h = absurd cc

multiplied : (s : Sign) (op : ProductOperator) → product_operator s ≡ Some op → s ≡ multiplying op
multiplied signs.Times op h = ap multiplying (same_some product_operators.Times op h)
multiplied signs.Over op h = ap multiplying (same_some product_operators.Over op h)
multiplied signs.Modulo op h = ap multiplying (same_some product_operators.Modulo op h)
multiplied signs.And op h = ap multiplying (same_some product_operators.And op h)
multiplied s op h = absurd cc

added : (s : Sign) (op : SumOperator) → sum_operator s ≡ Some op → s ≡ adding op
added signs.Plus op h = ap adding (same_some sum_operators.Plus op h)
added signs.Minus op h = ap adding (same_some sum_operators.Minus op h)
added s op h = absurd cc

factor_row : (n : ℕ) → All n → (room m : ℕ) (seen : List Marked) (e : Expression) (k : Expression → Place) → Groups AProduct e → Ends AProduct n room m seen k → Good (suc n) (seen ++ expression room m e) (k e) →
    (s : Sign) (o : Option ProductOperator) (past : Bool) (ms : List Marked) (tree : Tree) → ((op : ProductOperator) → o ≡ Some op → s ≡ multiplying op) → length ms < n →
    on_row (go_some o (factor_at room m e k) (step (k e) (AJoin s))) past (λ next. goes next ms) ≡ Some tree → Spells ((seen ++ expression room m e) ++ mark (AJoin s) past ∷ ms) tree
factor_row n all room m seen e k g f end s (Some op) false ms tree same few h =
    let s1 = seen ++ expression room m e in
    let s2 = s1 ++ join (multiplying op) ∷ [] in
    subst (λ x. Spells (s1 ++ join x ∷ ms) tree) (sym (same op refl))
    (front n s1 (join (multiplying op)) (factor_at room m e k op) (all.atoms room (operands m e) s2 (λ a. FactorsAt room m (Product op e a) k) (λ a ga.
    moved n (seen ++ expression room m (Product op e a)) (s2 ++ expression room (operands m e) a) (FactorsAt room m (Product op e a) k)
    (joined seen (expression room m e) (expression room (operands m e) a) (join (multiplying op))) (all.factors room m seen (Product op e a) k (g, ga) f))) ms tree few h)
factor_row n all room m seen e k g f end s (Some op) true ms tree same few h = absurd cc
factor_row n all room m seen e k g f end s None past ms tree same few h = end (mark (AJoin s) past ∷ ms) tree (omega arith) h

factor_token : (n : ℕ) → All n → (room m : ℕ) (seen : List Marked) (e : Expression) (k : Expression → Place) → Groups AProduct e → Ends AProduct n room m seen k → Good (suc n) (seen ++ expression room m e) (k e) →
    (t : Item) (past : Bool) (ms : List Marked) (tree : Tree) → length ms < n → goes (FactorsAt room m e k) (mark t past ∷ ms) ≡ Some tree → Spells ((seen ++ expression room m e) ++ mark t past ∷ ms) tree
factor_token n all room m seen e k g f end (AJoin s) past ms tree few h = factor_row n all room m seen e k g f end s (product_operator s) past ms tree (multiplied s) few h
factor_token n all room m seen e k g f end t past ms tree few h = end (mark t past ∷ ms) tree (omega arith) h

term_row : (n : ℕ) → All n → (room m : ℕ) (seen : List Marked) (e : Expression) (k : Expression → Place) → Groups ASum e → Ends ASum n room m seen k → Good (suc n) (seen ++ expression room m e) (k e) →
    (s : Sign) (o : Option SumOperator) (past : Bool) (ms : List Marked) (tree : Tree) → ((op : SumOperator) → o ≡ Some op → s ≡ adding op) → length ms < n →
    on_row (go_some o (term_at room m e k) (step (k e) (AJoin s))) past (λ next. goes next ms) ≡ Some tree → Spells ((seen ++ expression room m e) ++ mark (AJoin s) past ∷ ms) tree
term_row n all room m seen e k g f end s (Some op) false ms tree same few h =
    let s1 = seen ++ expression room m e in
    let s2 = s1 ++ join (adding op) ∷ [] in
    subst (λ x. Spells (s1 ++ join x ∷ ms) tree) (sym (same op refl))
    (front n s1 (join (adding op)) (term_at room m e k op) (products n all room (operands m e) s2 (λ p. TermsAt room m (Sum op e p) k) (λ p gp.
    moved n (seen ++ expression room m (Sum op e p)) (s2 ++ expression room (operands m e) p) (TermsAt room m (Sum op e p) k)
    (joined seen (expression room m e) (expression room (operands m e) p) (join (adding op))) (all.terms room m seen (Sum op e p) k (g, gp) f))) ms tree few h)
term_row n all room m seen e k g f end s (Some op) true ms tree same few h = absurd cc
term_row n all room m seen e k g f end s None past ms tree same few h = end (mark (AJoin s) past ∷ ms) tree (omega arith) h

term_token : (n : ℕ) → All n → (room m : ℕ) (seen : List Marked) (e : Expression) (k : Expression → Place) → Groups ASum e → Ends ASum n room m seen k → Good (suc n) (seen ++ expression room m e) (k e) →
    (t : Item) (past : Bool) (ms : List Marked) (tree : Tree) → length ms < n → goes (TermsAt room m e k) (mark t past ∷ ms) ≡ Some tree → Spells ((seen ++ expression room m e) ++ mark t past ∷ ms) tree
term_token n all room m seen e k g f end (AJoin s) past ms tree few h = term_row n all room m seen e k g f end s (sum_operator s) past ms tree (added s) few h
term_token n all room m seen e k g f end t past ms tree few h = end (mark t past ∷ ms) tree (omega arith) h

-- the same for one token less
fewer : (level : Level) (n room m : ℕ) (seen : List Marked) (k : Expression → Place) → Ends level (suc n) room m seen k → Ends level n room m seen k
fewer level n room m seen k f = λ e g. less n (seen ++ expression room m e) (k e) (f e g)

atoms_next : (n : ℕ) → All n → (room m : ℕ) (seen : List Marked) (k : Expression → Place) → Ends AnAtom (suc n) room m seen k →
    (ms : List Marked) (tree : Tree) → length ms < suc n → goes (AtomAt room m k) ms ≡ Some tree → Spells (seen ++ ms) tree
atoms_next n all room m seen k f [] tree few h = absurd cc
atoms_next n all room m seen k f (i ∷ ms) tree few h = atom_token n all room m seen k (fewer AnAtom n room m seen k f) i.item i.past ms tree (omega arith) h

factors_next : (n : ℕ) → All n → (room m : ℕ) (seen : List Marked) (e : Expression) (k : Expression → Place) → Groups AProduct e → Ends AProduct (suc n) room m seen k →
    (ms : List Marked) (tree : Tree) → length ms < suc n → goes (FactorsAt room m e k) ms ≡ Some tree → Spells ((seen ++ expression room m e) ++ ms) tree
factors_next n all room m seen e k g f [] tree few h = f e g [] tree few h
factors_next n all room m seen e k g f (i ∷ ms) tree few h = factor_token n all room m seen e k g (fewer AProduct n room m seen k f) (f e g) i.item i.past ms tree (omega arith) h

terms_next : (n : ℕ) → All n → (room m : ℕ) (seen : List Marked) (e : Expression) (k : Expression → Place) → Groups ASum e → Ends ASum (suc n) room m seen k →
    (ms : List Marked) (tree : Tree) → length ms < suc n → goes (TermsAt room m e k) ms ≡ Some tree → Spells ((seen ++ expression room m e) ++ ms) tree
terms_next n all room m seen e k g f [] tree few h = f e g [] tree few h
terms_next n all room m seen e k g f (i ∷ ms) tree few h = term_token n all room m seen e k g (fewer ASum n room m seen k f) (f e g) i.item i.past ms tree (omega arith) h

every : (n : ℕ) → All n
every zero = record {
  atoms = λ room m seen k f ms tree few h. absurd (omega arith);
  factors = λ room m seen e k g f ms tree few h. absurd (omega arith);
  terms = λ room m seen e k g f ms tree few h. absurd (omega arith);
}
every (suc n) = let i = every n in record { atoms = atoms_next n i; factors = factors_next n i; terms = terms_next n i }

pub good_value : (n : ℕ) (seen : List Marked) (k : Expression → Place) → ((e : Expression) → IsValue e → Good n (seen ++ value e) (k e)) → Good n seen (value_at k)
good_value n seen k f = sums n (every n) 32 0 seen k f
