-- What a function of the parser answers, beside the table of what may come.
use Rattle.std.specs.Prelude.{◌≡◌, ◌<◌, ◌≤◌, length, List, [], ◌∷◌, ◌++◌, ℕ, Option, Some, None, Result, Ok, Err}
use Rattle.nf_base.specs.declared.packet.Family.{Family}
use Rattle.nf_tokens.specs.Tokens.{start}
use Rattle.nf_tokens.specs.declared.token.Placed.{Placed}
use Rattle.nf_tree.specs.declared.place.Literal.{Literal}
use Rattle.nf_tree.specs.declared.tree.SumOperator.{SumOperator}
use Rattle.nf_tree.specs.declared.tree.ProductOperator.{ProductOperator}
use Rattle.nf_tree.specs.declared.tree.Label.{Label}
use Rattle.nf_tree.specs.Tree.{Expression, Given, Block, Tree}
use Rattle.nf_syntax.specs.declared.fault.TokenFault.{TokenFault}
use Rattle.nf_syntax.specs.declared.fault.TokenFault.TheVariants as stops
use Rattle.nf_syntax.specs.Expressions.{operands}
use Rattle.nf_syntax.specs.Statements.{Statement, turned}
use Rattle.nf_syntax.specs.Machine.{Place, NumberAt, FactorsAt, TermsAt, MoreAt, MoreGivenAt, MoreLabelsAt, MoreNumbersAt, BodyAt, FamilyAt, behind, Verdict, Accepted, Stuck, Past, Short, factor_at, term_at, value_at, one_given_at, one_label_at, run, whole}
use Rattle.nf_syntax.specs.Language.{last_place}

abbrev pub Fails : TokenFault → Verdict → Type 0
Fails (stops.Stuck kind p) v = v ≡ Stuck kind p
Fails (stops.Past p) v = v ≡ Past p
Fails stops.Short v = v ≡ Short
Fails stops.Memory v = Unit {0}

-- a part was read, and the tokens behind it are left, wherever that part is wanted
abbrev pub Reads : {X A : Type 0} → ((A → Place) → Place) → (X → A) → (X → List Placed) → Result X TokenFault → List Placed → Type 0
Reads {A = A} wanted part rest (Ok x) ps = (length (rest x) < length ps) × ((k : A → Place) → run (wanted k) ps ≡ run (k (part x)) (rest x))
Reads {A = A} wanted part rest (Err e) ps = (k : A → Place) → Fails e (run (wanted k) ps)

-- a part that may be missing was read
abbrev pub ReadsOn : {X A : Type 0} → ((A → Place) → Place) → (X → A) → (X → List Placed) → Result X TokenFault → List Placed → Type 0
ReadsOn {A = A} wanted part rest (Ok x) ps = (length (rest x) ≤ length ps) × ((k : A → Place) → run (wanted k) ps ≡ run (k (part x)) (rest x))
ReadsOn {A = A} wanted part rest (Err e) ps = (k : A → Place) → Fails e (run (wanted k) ps)

-- the first statement of a body was read, up to its blocks
abbrev pub Begins : {X : Type 0} → (X → Statement) → (X → List Placed) → Result X TokenFault →
    List Placed
    → Type 0
Begins part rest (Ok x) ps = (length (rest x) < length ps)
    × ((room : ℕ) (k : Block → Place) → run (BodyAt room k) ps ≡ run (behind room k (part x)) (rest x))
Begins part rest (Err e) ps = (room : ℕ) (k : Block → Place) → Fails e (run (BodyAt room k) ps)

-- the blocks of a statement were read, and it stands with those before it
abbrev pub Extends : {X : Type 0} → ℕ → Block → Statement → (X → Block) → (X → List Placed)
    → Result X TokenFault → List Placed → Type 0
Extends room before s part rest (Ok x) ps = (length (rest x) < length ps)
    × ((k : Block → Place) → run (behind room (λ next. k (turned before next)) s) ps
    ≡ run (BodyAt room (λ next. k (turned (part x) next))) (rest x))
Extends room before s part rest (Err e) ps =
    (k : Block → Place) → Fails e (run (behind room (λ next. k (turned before next)) s) ps)

-- a sign was passed
abbrev pub Passes : {X : Type 0} → (Place → Place) → (X → List Placed) → Result X TokenFault → List Placed → Type 0
Passes wanted rest (Ok x) ps = (length (rest x) < length ps) × ((k : Place) → run (wanted k) ps ≡ run k (rest x))
Passes wanted rest (Err e) ps = (k : Place) → Fails e (run (wanted k) ps)

-- behind a comma, a list goes on
pub record GoesOn (ps rest : List Placed) : Type 0 where
  pub values : (vs : List Expression) (k : List Expression → Place) → run (MoreAt vs k) ps ≡ run (value_at (λ v. MoreAt (vs ++ v ∷ []) k)) rest
  pub given : (gs : List Given) (k : List Given → Place) → run (MoreGivenAt gs k) ps ≡ run (one_given_at (λ g. MoreGivenAt (gs ++ g ∷ []) k)) rest
  pub labels : (ls : List Label) (k : List Label → Place) → run (MoreLabelsAt ls k) ps ≡ run (one_label_at (λ l. MoreLabelsAt (ls ++ l ∷ []) k)) rest
  pub numbers : (ns : List Literal) (k : List Literal → Place) → run (MoreNumbersAt ns k) ps ≡ run (NumberAt (λ n. MoreNumbersAt (ns ++ n ∷ []) k)) rest

-- without one, it is at its end
pub record IsEnded (ps : List Placed) : Type 0 where
  pub values : (vs : List Expression) (k : List Expression → Place) → run (MoreAt vs k) ps ≡ run (k vs) ps
  pub given : (gs : List Given) (k : List Given → Place) → run (MoreGivenAt gs k) ps ≡ run (k gs) ps
  pub labels : (ls : List Label) (k : List Label → Place) → run (MoreLabelsAt ls k) ps ≡ run (k ls) ps
  pub numbers : (ns : List Literal) (k : List Literal → Place) → run (MoreNumbersAt ns k) ps ≡ run (k ns) ps

abbrev pub PassesComma : {X : Type 0} → (X → List Placed) → Option X → List Placed → Type 0
PassesComma rest (Some x) ps = (length (rest x) < length ps) × GoesOn ps (rest x)
PassesComma rest None ps = IsEnded ps

-- the same of the operators of products and of sums
abbrev pub PassesFactor : {X : Type 0} → (X → ProductOperator) → (X → List Placed) → Option X → List Placed → Type 0
PassesFactor operator rest (Some x) ps = (length (rest x) < length ps) × ((room n : ℕ) (e : Expression) (k : Expression → Place) → run (FactorsAt room n e k) ps ≡ run (factor_at room n e k (operator x)) (rest x))
PassesFactor operator rest None ps = (room n : ℕ) (e : Expression) (k : Expression → Place) → run (FactorsAt room n e k) ps ≡ run (k e) ps

abbrev pub PassesTerm : {X : Type 0} → (X → SumOperator) → (X → List Placed) → Option X → List Placed → Type 0
PassesTerm operator rest (Some x) ps = (length (rest x) < length ps) × ((room n : ℕ) (e : Expression) (k : Expression → Place) → run (TermsAt room n e k) ps ≡ run (term_at room n e k (operator x)) (rest x))
PassesTerm operator rest None ps = (room n : ℕ) (e : Expression) (k : Expression → Place) → run (TermsAt room n e k) ps ≡ run (k e) ps

-- the family of a handler was read, or is not written and IPv4 stands in
pub record ReadsFamily (family : Family) (rest ps : List Placed) : Type 0 where
  pub shorter : length rest ≤ length ps
  pub read : (k : Family → Place) → run (FamilyAt k) ps ≡ run (k family) rest

-- so many operands stand up to the end of an expression with so many before it
abbrev pub Counts : ℕ → Expression → ℕ → Type 0
Counts before e n = (n ≡ operands before e) × (n ≤ 64)

-- a tree without where it ends
abbrev pub without_end : Tree → Tree
without_end t = record { name = t.name; ports = t.ports; declarations = t.declarations; handlers = t.handlers; end = start }

abbrev pub Answers : {X : Type 0} → (X → Tree) → Result X TokenFault → List Placed → Type 0
Answers view (Ok x) ps = (run whole ps ≡ Accepted (without_end (view x))) × ((view x).end ≡ last_place start ps)
Answers view (Err e) ps = Fails e (run whole ps)
