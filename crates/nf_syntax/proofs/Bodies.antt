-- The statements of a body, read one by one.
use Rattle.std.proofs.Common.{◌≡◌, ◌∙◌, ◌≤◌, ℕ, suc, List, ap, sym, subst, arith}
use Rattle.nf_tokens.specs.declared.token.Placed.{Placed}
use Rattle.nf_tree.specs.Tree.{Ending, Block, End, Do, Ask, Make}
use Rattle.nf_tree.specs.Depth.{depth}
use Rattle.nf_syntax.specs.declared.fault.TokenFault.{TokenFault}
use Rattle.nf_syntax.specs.Statements.{Statement, turned}
use Rattle.nf_syntax.specs.Machine.{Place, BodyAt, behind, run}
use Rattle.nf_syntax.specs.Reads.{Fails}

-- a body's tokens are read so far, with these statements before what is left
abbrev pub SoFar : ℕ → Block → List Placed → List Placed → Type 0
SoFar room before ps rest = (k : Block → Place) → run (BodyAt room k) ps ≡ run (BodyAt room (λ next. k (turned before next))) rest

-- a statement and its blocks are read behind the statements before
pub so_far : (room : ℕ) (before after : Block) (d s : Statement) (ps rest blocks left : List Placed) → d ≡ s → SoFar room before ps rest →
    ((r : ℕ) (k : Block → Place) → run (BodyAt r k) rest ≡ run (behind r k d) blocks) →
    ((k : Block → Place) → run (behind room (λ next. k (turned before next)) s) blocks ≡ run (BodyAt room (λ next. k (turned after next))) left) →
    SoFar room after ps left
so_far room before after d s ps rest blocks left e all begun read = λ k.
    let k1 = λ (next : Block). k (turned before next) in
    all k ∙ begun room k1 ∙ ap (λ x. run (behind room k1 x) blocks) e ∙ read k

-- the reading of its blocks stops
pub stopped : (room : ℕ) (before : Block) (d s : Statement) (ps rest blocks : List Placed) (stop : TokenFault) → d ≡ s → SoFar room before ps rest →
    ((r : ℕ) (k : Block → Place) → run (BodyAt r k) rest ≡ run (behind r k d) blocks) →
    ((k : Block → Place) → Fails stop (run (behind room (λ next. k (turned before next)) s) blocks)) →
    (k : Block → Place) → Fails stop (run (BodyAt room k) ps)
stopped room before d s ps rest blocks stop e all begun read = λ k.
    let k1 = λ (next : Block). k (turned before next) in
    subst (λ v. Fails stop v) (sym (all k ∙ begun room k1 ∙ ap (λ x. run (behind room k1 x) blocks) e)) (read k)

-- statements in front of a block nest no deeper than both
turned_depth : (n : ℕ) (before block : Block) → depth before ≤ n → depth block ≤ n → depth (turned before block) ≤ n
turned_depth n (End e) block g h = h
turned_depth n (Do o before) block g h = turned_depth n before (Do o block) g h
turned_depth n (Ask q hit miss before) block g h = turned_depth n before (Ask q hit miss block) (omega (arith, g)) (omega (arith, g, h))
turned_depth n (Make c made taken full before) block g h = turned_depth n before (Make c made taken full block) (omega (arith, g)) (omega (arith, g, h))

-- a body with its end
pub ended_depth : (room : ℕ) (before : Block) (e : Ending) → depth before ≤ suc room → depth (turned before (End e)) ≤ suc room
ended_depth room before e g = turned_depth (suc room) before (End e) g (omega arith)
