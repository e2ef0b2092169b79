-- What a `new` finds and makes.
use Rattle.std.specs.Prelude.{◌≡◌, ℕ, IsTrue, true, false, List, [], ◌∷◌, ◌++◌, length, drop, Option, Some, None, if◌then◌else◌}
use Rattle.nf_base.specs.declared.share.Share.{Share}
use Rattle.nf_base.specs.declared.state.Entry.{Entry}
use Rattle.nf_base.specs.declared.state.Chain.{Chain}
use Rattle.nf_base.specs.Context as context
use Rattle.nf_base.specs.Operations as step
use Rattle.nf_base.specs.Chains.{chain_at, maps_of, zeros_of, is_taken, is_full, stamped, fresh}
use Rattle.nf_base.specs.Shares.{owns, none_vacant}
use Rattle.nf_base.specs.Text.{Creation}
use Rattle.vig_tables.specs.Table.{is_open, FindsFull, FindsOpen}
use Rattle.vig_tables.specs.TablesState.{TablesState, changed}
use Rattle.nf_engine.specs.declared.context.Context.{Context}
use Rattle.nf_engine.specs.Input.{Input}
use Rattle.nf_engine.specs.declared.creation.NewResult.{NewResult}
use Rattle.nf_engine.specs.declared.creation.NewResult.TheVariants.{Made, Taken, Full, Illegal, Stopped}
use Rattle.nf_engine.specs.Stops.{may_halt, stops_of}
use Rattle.nf_engine.specs.View.{context_of, input_of}
use Rattle.nf_engine.specs.Choices.{MayBe, AreGiven, Consumes, are_own, context_by}

-- where an entry is made
abbrev pub IfMade : NewResult → (ℕ → Type 0) → Type 0
IfMade (Made i) P = P i
IfMade Taken P = Unit {0}
IfMade Full P = Unit {0}
IfMade Illegal P = Unit {0}
IfMade Stopped P = Unit {0}

-- where a choice is not legal
abbrev pub IfIllegal : NewResult → Type 0 → Type 0
IfIllegal (Made i) P = Unit {0}
IfIllegal Taken P = Unit {0}
IfIllegal Full P = Unit {0}
IfIllegal Illegal P = P
IfIllegal Stopped P = Unit {0}

-- what a `new` comes to with no own index vacant
abbrev pub without_vacant : Input → NewResult
without_vacant p = if may_halt p then Stopped else Full

-- no key is taken, and an own index is vacant
pub record FindsSome (p : Input) (k : ℕ) (labels : List ℕ) (slots : List (Option Entry))
    : Type 0 where
  pub untaken : is_taken (maps_of p.decls k) labels slots ≡ false
  pub some : none_vacant (owns p.share) slots ≡ false

-- what a `new` with these labels finds at the indices of its chain
abbrev pub Finds : NewResult → Input → ℕ → List ℕ → List (Option Entry) → Type 0
Finds (Made i) p chain labels slots = FindsOpen (maps_of p.decls chain) labels p.share slots i
Finds Taken p chain labels slots = is_taken (maps_of p.decls chain) labels slots ≡ true
Finds Full p chain labels slots =
    (p.share.of ≡ 1) × (may_halt p ≡ false) × FindsFull (maps_of p.decls chain) labels p.share slots
Finds Illegal p chain labels slots = FindsSome p chain labels slots
Finds Stopped p chain labels slots =
    IsTrue (may_halt p) × FindsFull (maps_of p.decls chain) labels p.share slots

-- an index that is not own or not vacant, or none
abbrev pub IsClosed : Share → List (Option Entry) → Option ℕ → Type 0
IsClosed share slots None = Unit {0}
IsClosed share slots (Some i) = is_open share slots i ≡ false

-- the tables with the entry that a `new` made
abbrev pub entered : NewResult → Input → ℕ → List ℕ → TablesState → TablesState
entered (Made i) p chain labels t =
    changed chain (stamped p.time i (fresh labels (zeros_of p.decls chain))) t
entered Taken p chain labels t = t
entered Full p chain labels t = t
entered Illegal p chain labels t = t
entered Stopped p chain labels t = t

-- what a `new` with these labels comes to, by the choices that are left
abbrev pub result_with : Input → ℕ → List ℕ → List Chain → List ℕ → step.NewResult
result_with p k labels chains left =
    let chain = chain_at chains k in
    if is_taken (maps_of p.decls k) labels chain.slots then step.Taken
    else if stops_of p k chain then step.Stopped
    else if is_full chain.slots then step.Full
    else step.chosen chain.slots left

-- an entry is made at an index, which is the next choice
pub record ComesToMade (p : Input) (taken : List ℕ) (i : ℕ)
    (meant : List ℕ → step.NewResult) (all : List ℕ) : Type 0 where
  pub consumes : Consumes p taken (taken ++ i ∷ []) all
  pub next : drop (length taken) all ≡ i ∷ drop (length (taken ++ i ∷ [])) all
  pub made : meant (drop (length taken) all) ≡ step.Made i

-- what a `new` comes to, by the choices that are left
abbrev pub ComesTo : NewResult → Input → List ℕ → (List ℕ → step.NewResult) → Type 0
ComesTo (Made i) p taken meant =
    (all : List ℕ) → MayBe p.choices (taken ++ i ∷ []) all → ComesToMade p taken i meant all
ComesTo Taken p taken meant = (left : List ℕ) → meant left ≡ step.Taken
ComesTo Full p taken meant = (left : List ℕ) → meant left ≡ step.Full
ComesTo Illegal p taken meant =
    AreGiven p.choices
    × ((all : List ℕ)
    → MayBe p.choices taken all
    → IsTrue (are_own p.share all)
    → meant (drop (length taken) all) ≡ step.Illegal)
ComesTo Stopped p taken meant =
    IsTrue (may_halt p) × ((left : List ℕ) → meant left ≡ step.Stopped)

-- what a `new` of a handler comes to, for its share
abbrev pub meant_result : Input → Creation → context.Context → step.NewResult
meant_result p n c = step.new_result (stops_of p) (input_of p) c n

-- what a `new` makes, by all the choices; where it makes no entry nothing changes
abbrev pub Makes :
    NewResult → Input → Creation → TablesState → Context → TablesState → Context → Type 0
Makes (Made i) p n t old u new =
    (new.picks ≡ old.picks ++ i ∷ [])
    × ((all : List ℕ)
    → MayBe p.choices new.picks all
    → Consumes p old.picks new.picks all
    × (meant_result p n (context_by all t old) ≡ step.Made i)
    × (step.with_new (input_of p) (context_by all t old) n i ≡ context_by all u new))
Makes Taken p n t old u new =
    (new ≡ old)
    × (u ≡ t)
    × ((left : List ℕ) → meant_result p n (context_of t left old) ≡ step.Taken)
Makes Full p n t old u new =
    (new ≡ old)
    × (u ≡ t)
    × ((left : List ℕ) → meant_result p n (context_of t left old) ≡ step.Full)
Makes Illegal p n t old u new =
    (new ≡ old)
    × AreGiven p.choices
    × ((all : List ℕ)
    → MayBe p.choices old.picks all
    → IsTrue (are_own p.share all)
    → meant_result p n (context_by all t old) ≡ step.Illegal)
Makes Stopped p n t old u new =
    (new ≡ old)
    × IsTrue (may_halt p)
    × ((left : List ℕ) → meant_result p n (context_of t left old) ≡ step.Stopped)
