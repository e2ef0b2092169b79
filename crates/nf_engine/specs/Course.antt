-- What the interpreter's calls come to, by all the choices that a packet may have.
use Rattle.std.specs.Prelude.{◌≡◌, ℕ, ◌+◌, ◌≤◌, Bool, IsTrue, true, false, List, length, Option, Some, None}
use Rattle.nf_base.specs.declared.decl.ChainDecl.{ChainDecl}
use Rattle.nf_base.specs.Context as context
use Rattle.nf_base.specs.declared.done.Action.TheVariants as action
use Rattle.nf_base.specs.Course.{Completion, Normal, Ended, NoStep, StoppedAt, exec}
use Rattle.nf_base.specs.Limits.{QuestionFits, CreationFits}
use Rattle.nf_base.specs.Text.{Block, End, Do, Ask, Make, Question, Get, Find, Test}
use Rattle.vig_tables.specs.TablesState.{TablesState}
use Rattle.nf_engine.specs.declared.context.Context.{Context}
use Rattle.nf_engine.specs.Input.{Input}
use Rattle.nf_engine.specs.declared.context.BlockResult.{BlockResult}
use Rattle.nf_engine.specs.declared.context.BlockResult.TheVariants.{Falls, Drop, Flood, To, ShareFull, BadChoice}
use Rattle.nf_engine.specs.View.{context_of, input_of}
use Rattle.nf_engine.specs.Stops.{may_halt, stops_of}
use Rattle.nf_engine.specs.Choices.{MayBe, AreGiven, Consumes, are_own, context_by}

-- how many variables a question binds
abbrev pub bound_by : Question → ℕ
bound_by (Get place chain m key var) = 1
bound_by (Find place chain at guards var) = 1
bound_by (Test place comparison left right) = 0

-- how many variables a block and those in it bind
abbrev pub lookups : Block → ℕ
lookups (End e) = 0
lookups (Do op next) = lookups next
lookups (Ask q hit miss next) = bound_by q + (lookups hit + (lookups miss + lookups next))
lookups (Make n made taken full next) =
    1 + (lookups made + (lookups taken + (lookups full + lookups next)))

-- how many entries a block and those in it make
abbrev pub news : Block → ℕ
news (End e) = 0
news (Do op next) = news next
news (Ask q hit miss next) = news hit + (news miss + news next)
news (Make n made taken full next) = 1 + (news made + (news taken + (news full + news next)))

-- there is room for what a block binds and makes
pub record HasRoom (c : Context) (b : Block) : Type 0 where
  pub vars : length c.vars + lookups b ≤ 32
  pub picks : length c.picks + news b ≤ 16

-- no more than what a block binds and makes is used
pub record UsesRoom (b : Block) (old new : Context) : Type 0 where
  pub vars : length new.vars ≤ length old.vars + lookups b
  pub picks : length new.picks ≤ length old.picks + news b

-- each statement of a block, at any depth, fits the tables of these chains
abbrev pub BlockFits : List ChainDecl → Block → Type 0
BlockFits decls (End e) = Unit {0}
BlockFits decls (Do op next) = BlockFits decls next
BlockFits decls (Ask q hit miss next) =
    QuestionFits q × BlockFits decls hit × BlockFits decls miss × BlockFits decls next
BlockFits decls (Make n made taken full next) =
    CreationFits decls n
    × BlockFits decls made
    × BlockFits decls taken
    × BlockFits decls full
    × BlockFits decls next

-- whether a question hits, and the context then, whatever choices are left; a miss changes nothing
abbrev pub Answers :
    Bool → TablesState → Context → Context → (context.Context → Option context.Context) → Type 0
Answers true t old new meant =
    (left : List ℕ) → meant (context_of t left old) ≡ Some (context_of t left new)
Answers false t old new meant =
    (new ≡ old) × ((left : List ℕ) → meant (context_of t left old) ≡ None)

-- what a block completes as for a share, in the context that it left: for all choices that follow those
-- consumed
abbrev pub Comes : Input → Block → TablesState → Context → TablesState → Context → (context.Context → Completion) → Type 0
Comes p b t old u new meant =
    (all : List ℕ)
    → MayBe p.choices new.picks all
    → Consumes p old.picks new.picks all
    × (exec (stops_of p) (input_of p) b (context_by all t old) ≡ meant (context_by all u new))

-- how a block goes for a share
abbrev pub Goes : BlockResult → Input → Block → TablesState → Context → TablesState → Context →
    Type 0
Goes Falls p b t old u new = Comes p b t old u new Normal
Goes Drop p b t old u new = Comes p b t old u new (Ended action.Drop)
Goes Flood p b t old u new = Comes p b t old u new (Ended action.Flood)
Goes (To port) p b t old u new = Comes p b t old u new (Ended (action.To port))
Goes (ShareFull chain) p b t old u new =
    IsTrue (may_halt p) × Comes p b t old u new (λ c. StoppedAt chain c.left)
Goes BadChoice p b t old u new =
    AreGiven p.choices
    × ((all : List ℕ)
    → MayBe p.choices new.picks all
    → IsTrue (are_own p.share all)
    → exec (stops_of p) (input_of p) b (context_by all t old) ≡ NoStep)

-- where a block falls off its end
abbrev pub IfFalls : BlockResult → Type 0 → Type 0
IfFalls Falls P = P
IfFalls Drop P = Unit {0}
IfFalls Flood P = Unit {0}
IfFalls (To port) P = Unit {0}
IfFalls (ShareFull chain) P = Unit {0}
IfFalls BadChoice P = Unit {0}
