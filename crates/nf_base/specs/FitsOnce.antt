-- Handlers whose statements fit: one fact with one proof, as a ghost field has to be.
use mathlib.Core.HLevel.{Unit-prop, Π_prop, ×_prop}
use native.Mathlib.Nat.{ℕ_set}
use native.Mathlib.Bridge.{le_prop}
use Rattle.std.specs.Prelude.{ℕ, ◌<◌, List, length, All, Option, Some, None, slice_get, slice_index_or}
use Rattle.nf_base.specs.declared.decl.ChainDecl.{ChainDecl}
use Rattle.nf_base.specs.Text.{Question, Get, Find, Test, Block}
use Rattle.nf_base.specs.Statements.{Statement, Ends, Does, Asks, Makes, statements}
use Rattle.nf_base.specs.Limits.{AreFor, QuestionFits, Fits}

-- each statement of each of some blocks fits
abbrev pub AllFit : List ChainDecl → List Block → Type 0
AllFit decls blocks = All (λ b. All (Fits decls) (statements b)) blocks

AreFor-prop : (count : ℕ) (decl : Option ChainDecl) → IsProp (AreFor count decl)
AreFor-prop count None = Unit-prop
AreFor-prop count (Some decl) = ℕ_set count (length decl.labels)

QuestionFits-prop : (q : Question) → IsProp (QuestionFits q)
QuestionFits-prop (Get place chain m key var) = le_prop
QuestionFits-prop (Find place chain at guards var) = Unit-prop
QuestionFits-prop (Test place comparison left right) = Unit-prop

Fits-prop : (decls : List ChainDecl) (s : Statement) → IsProp (Fits decls s)
Fits-prop decls (Ends e) = Unit-prop
Fits-prop decls (Does op) = Unit-prop
Fits-prop decls (Asks q) = QuestionFits-prop q
Fits-prop decls (Makes n) = ×_prop le_prop (AreFor-prop (length n.labels) (slice_get decls n.chain))

-- a fact on each element holds in one way at most, where it does of each
All-prop : {A : Type 0} (P : A → Type 0) → ((x : A) → IsProp (P x)) → (xs : List A) → IsProp (All P xs)
All-prop P once xs = Π_prop (λ (k : ℕ). Π_prop (λ d. Π_prop (λ (_ : k < length xs). once (slice_index_or xs k d))))

pub AllFit-prop : (decls : List ChainDecl) (blocks : List Block) → IsProp (AllFit decls blocks)
AllFit-prop decls blocks =
    All-prop (λ b. All (Fits decls) (statements b))
    (λ b. All-prop (Fits decls) (Fits-prop decls) (statements b)) blocks
