-- What the interpreter's calls come to, by all the choices that a packet may have.
use Rattle.std.specs.Prelude.{◌≡◌, ℕ, Bool, true, false, List, [], ◌∷◌, ◌++◌, ◌||◌, length, drop, Option, Some, None, Result, Ok, Err, if◌then◌else◌, slice_set}
use Rattle.std.specs.List.{count_by}
use Rattle.std.specs.Borrow.{Bor}
use Rattle.nf_base.specs.Context as context
use Rattle.nf_base.specs.Operations as step
use Rattle.nf_base.specs.Operations.{never, bound, with_chains}
use Rattle.nf_base.specs.Chains.{chain_at, maps_of, zeros_of, is_taken, is_full, stamped, fresh}
use Rattle.nf_base.specs.Course.{Completion, NoStep, and_then, exec, events}
use Rattle.nf_base.specs.Events.{Event}
use Rattle.nf_base.specs.Record.{answers_full}
use Rattle.nf_base.specs.Statements.{is_new, statements}
use Rattle.nf_base.specs.Text.{Block, End, Do, Ask, Make, Creation}
use Rattle.nf_base.specs.declared.block.Block as block
use Rattle.nf_base.specs.View.{block_of}
use Rattle.nf_meaning.specs.declared.context.Context.{Context}
use Rattle.nf_meaning.specs.declared.context.Input.{Input}
use Rattle.nf_meaning.specs.declared.context.Flow.{Flow}
use Rattle.nf_meaning.specs.declared.context.Flow.TheVariants.{Falls, Ends}
use Rattle.nf_meaning.specs.declared.creation.NewResult.{NewResult}
use Rattle.nf_meaning.specs.declared.creation.NewResult.TheVariants.{Made, Taken, Full, Illegal}
use Rattle.nf_meaning.specs.declared.fault.StepFault.{StepFault}
use Rattle.nf_meaning.specs.declared.fault.StepFault.TheVariants.{BadChoice, Memory}
use Rattle.nf_meaning.specs.View.{context_of, input_of, completion_of}
use Rattle.nf_meaning.specs.Choices.{Choices, MayBe, AreGiven, context_by}

-- how many `new` stand in a block
abbrev pub news : Block → ℕ
news b = count_by is_new (statements b)

-- whether a question hits, and the context then, whatever choices are left; a miss changes nothing
abbrev pub Answers : Bool → Context → Context → (context.Context → Option context.Context) → Type 0
Answers true old new meant =
    (left : List ℕ) → meant (context_of left old) ≡ Some (context_of left new)
Answers false old new meant = (new ≡ old) × ((left : List ℕ) → meant (context_of left old) ≡ None)

-- what a `new` with these labels comes to, by the choices that are left
abbrev pub result_with : context.Input → context.Context → ℕ → List ℕ → List ℕ → step.NewResult
result_with p c chain labels left =
    let slots = (chain_at c.state.chains chain).slots in
    if is_taken (maps_of p.decls chain) labels slots then step.Taken
    else if is_full slots then step.Full
    else step.chosen slots left

-- the context with an entry made that has these labels
abbrev pub new_with : context.Input → context.Context → Creation → List ℕ → ℕ → context.Context
new_with p c n labels i =
    let entry = fresh labels (zeros_of p.decls n.chain) in
    let chain = stamped p.time i entry (chain_at c.state.chains n.chain) in
    let d = bound n.var n.chain (with_chains (slice_set c.state.chains n.chain chain) c) i in
    record d { left = drop 1 c.left }

-- where an entry is made
abbrev pub IfMade : NewResult → (ℕ → Type 0) → Type 0
IfMade (Made i) P = P i
IfMade Taken P = Unit {0}
IfMade Full P = Unit {0}
IfMade Illegal P = Unit {0}

-- what a `new` comes to, by the choices that are left
abbrev pub ComesTo : NewResult → Choices → List ℕ → (List ℕ → step.NewResult) → Type 0
ComesTo (Made i) choices taken meant =
    (all : List ℕ)
    → MayBe choices (taken ++ i ∷ []) all
    → MayBe choices taken all
    × (drop (length taken) all ≡ i ∷ drop (length (taken ++ i ∷ [])) all)
    × (meant (drop (length taken) all) ≡ step.Made i)
ComesTo Taken choices taken meant = (left : List ℕ) → meant left ≡ step.Taken
ComesTo Full choices taken meant = (left : List ℕ) → meant left ≡ step.Full
ComesTo Illegal choices taken meant =
    AreGiven choices
    × ((all : List ℕ) → MayBe choices taken all → meant (drop (length taken) all) ≡ step.Illegal)

-- what a `new` comes to in a context, and the context with an entry made at an index
abbrev pub Meant : Type 0
Meant = context.Context → step.NewResult

abbrev pub MeantMade : Type 0
MeantMade = context.Context → ℕ → context.Context

-- what a `new` makes; where it makes no entry nothing changes
abbrev pub Makes : NewResult → Choices → Context → Context → Meant → MeantMade → Type 0
Makes (Made i) choices old new meant made =
    (new.picks ≡ old.picks ++ i ∷ [])
    × (new.full ≡ old.full)
    × ((all : List ℕ)
    → MayBe choices new.picks all
    → MayBe choices old.picks all
    × (meant (context_by all old) ≡ step.Made i)
    × (made (context_by all old) i ≡ context_by all new))
Makes Taken choices old new meant made =
    (new ≡ old) × ((left : List ℕ) → meant (context_of left old) ≡ step.Taken)
Makes Full choices old new meant made =
    (new ≡ record old { full = true }) × ((left : List ℕ) → meant (context_of left old) ≡ step.Full)
Makes Illegal choices old new meant made =
    (new ≡ old)
    × AreGiven choices
    × ((all : List ℕ) → MayBe choices old.picks all → meant (context_by all old) ≡ step.Illegal)

-- what follows a block
abbrev pub Follows : Type 0
Follows = context.Context → List Event

-- how a block goes by all choices from a context
abbrev pub course : Input → Block → List ℕ → Context → Completion
course p b all c = exec never (input_of p) b (context_by all c)

-- its record, with what follows it
abbrev pub told : Input → Block → List ℕ → Context → Follows → List Event
told p b all c k = events never (input_of p) b (context_by all c) k

-- A block goes, and its record answers full, as another one does from a later context.
pub record GoesOn (p : Input) (b next : Block) (old new : Context) : Type 0 where
  pub may : (all : List ℕ) → MayBe p.choices new.picks all → MayBe p.choices old.picks all
  pub goes : (all : List ℕ) → MayBe p.choices new.picks all
      → course p b all old ≡ course p next all new
  pub tells : (all : List ℕ) (k : Follows) → MayBe p.choices new.picks all
      → (old.full || answers_full (told p b all old k))
      ≡ (new.full || answers_full (told p next all new k))

-- A statement with what stands behind it goes as one of its blocks does, and then that.
pub record Enters (p : Input) (s : Block → Block) (inner : Block) (old new : Context) : Type 0 where
  pub may : (all : List ℕ) → MayBe p.choices new.picks all → MayBe p.choices old.picks all
  pub goes : (all : List ℕ) (next : Block) → MayBe p.choices new.picks all
      → course p (s next) all old
      ≡ and_then (course p inner all new) (exec never (input_of p) next)
  pub tells : (all : List ℕ) (next : Block) (k : Follows) → MayBe p.choices new.picks all
      → (old.full || answers_full (told p (s next) all old k))
      ≡ (new.full || answers_full (told p inner all new (λ c. events never (input_of p) next c k)))

-- A block has no step with the choices that are given.
pub record Refuses (p : Input) (b : Block) (old new : Context) : Type 0 where
  pub given : AreGiven p.choices
  pub none : (all : List ℕ) → MayBe p.choices new.picks all → course p b all old ≡ NoStep

-- the record of what follows a block that went so
abbrev pub record_after : Flow → List Event → List Event
record_after Falls rest = rest
record_after (Ends a) rest = []

-- A block went so.
pub record Goes (p : Input) (b : Block) (old : Context) (flow : Flow) (new : Context) : Type 0 where
  pub may : (all : List ℕ) → MayBe p.choices new.picks all → MayBe p.choices old.picks all
  pub goes : (all : List ℕ) → MayBe p.choices new.picks all
      → course p b all old ≡ completion_of flow (context_by all new)
  pub tells : (all : List ℕ) (k : Follows) → MayBe p.choices new.picks all
      → (old.full || answers_full (told p b all old k))
      ≡ (new.full || answers_full (record_after flow (k (context_by all new))))

-- How a block goes. Want of memory says nothing.
abbrev pub Went : Result Flow StepFault → Input → Block → Context → Context → Type 0
Went (Ok flow) p b old new = Goes p b old flow new
Went (Err BadChoice) p b old new = Refuses p b old new
Went (Err Memory) p b old new = Unit {0}

-- which of its blocks a statement goes into, if a choice is legal
abbrev pub Chooses : Option (Bor block.Block) → Input → (Block → Block) → Context → Context → Type 0
Chooses (Some inner) p statement old new = Enters p statement (block_of inner.now) old new
Chooses None p statement old new = (next : Block) → Refuses p (statement next) old new

-- what stands behind a statement; behind an end, the end again
abbrev pub behind : Block → Block
behind (End e) = End e
behind (Do op next) = next
behind (Ask q hit miss next) = next
behind (Make n made taken full next) = next

-- whether nothing stands behind
abbrev pub is_end : Block → Bool
is_end (End e) = true
is_end (Do op next) = false
is_end (Ask q hit miss next) = false
is_end (Make n made taken full next) = false
