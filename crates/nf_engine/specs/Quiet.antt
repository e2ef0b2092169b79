-- How a handler goes as long as nothing is written, whatever choices it is given.
use Rattle.std.specs.Prelude.{◌≡◌, ℕ, true, false, List, []}
use Rattle.nf_base.specs.Context as context
use Rattle.nf_base.specs.Course.{NoStep, exec, events}
use Rattle.nf_base.specs.Events.{Event, did, asked, asked_new}
use Rattle.nf_base.specs.Operations as step
use Rattle.nf_base.specs.Operations.{never, after, new_result}
use Rattle.nf_base.specs.Record.{is_quiet}
use Rattle.nf_base.specs.Text.{Block, Creation, Operation, Question}
use Rattle.vig_tables.specs.TablesState.{TablesState}
use Rattle.nf_engine.specs.declared.context.Context.{Context}
use Rattle.nf_engine.specs.Input.{Input}
use Rattle.nf_engine.specs.declared.context.Flow.{Flow}
use Rattle.nf_engine.specs.declared.context.Flow.TheVariants.{Falls, Drop, Flood, To}
use Rattle.nf_engine.specs.declared.quiet_block.Refusal.{Refusal}
use Rattle.nf_engine.specs.declared.quiet_block.Refusal.TheVariants.{Taken, Full}
use Rattle.nf_engine.specs.View.{context_of, input_of, completion_of}

-- the record of what follows a block that went so
abbrev pub record_after : Flow → List Event → List Event
record_after Falls rest = rest
record_after Drop rest = []
record_after Flood rest = []
record_after (To port) rest = []

-- an operation that changes no table
pub record DoesQuietly (p : Input) (op : Operation) (t : TablesState) (old new : Context)
    : Type 0 where
  pub done :
      (left : List ℕ) → context_of t left new ≡ after (input_of p) (context_of t left old) op
  pub told :
      (left : List ℕ) (es : List Event)
      → is_quiet (did (input_of p) (context_of t left old) op es) ≡ is_quiet es

-- an operation that changes some table
abbrev pub Writes : Input → Operation → TablesState → Context → Type 0
Writes p op t c =
    (left : List ℕ) (es : List Event)
    → is_quiet (did (input_of p) (context_of t left c) op es) ≡ false

-- the record of a question
abbrev pub IsToldAsked : Input → Question → TablesState → Context → Type 0
IsToldAsked p q t c =
    (left : List ℕ) (es : List Event)
    → is_quiet (asked (input_of p) (context_of t left c) q es) ≡ is_quiet es

-- what a `new` comes to that makes no entry
abbrev pub refused : Refusal → step.NewResult
refused Taken = step.Taken
refused Full = step.Full

-- a `new` that makes no entry
abbrev pub IsRefused : Refusal → Input → Creation → TablesState → Context → Type 0
IsRefused r p n t c =
    (left : List ℕ) → new_result never (input_of p) (context_of t left c) n ≡ refused r

-- and its record
abbrev pub IsToldRefused : Input → Creation → TablesState → Context → Type 0
IsToldRefused p n t c =
    (left : List ℕ) (es : List Event)
    → is_quiet (asked_new never (input_of p) (context_of t left c) n es) ≡ is_quiet es

-- a `new` that makes an entry, where the next choice is legal
abbrev pub MakesSome : Input → Creation → TablesState → Context → Type 0
MakesSome p n t c =
    (left : List ℕ) (es : List Event)
    → is_quiet (asked_new never (input_of p) (context_of t left c) n es) ≡ true
    → new_result never (input_of p) (context_of t left c) n ≡ step.Illegal

-- how a block goes that changes no table
abbrev pub GoesQuietly : Flow → Input → Block → TablesState → Context → Context → Type 0
GoesQuietly flow p b t old new =
    (left : List ℕ)
    → exec never (input_of p) b (context_of t left old) ≡ completion_of flow (context_of t left new)

-- and its record
abbrev pub IsToldQuiet : Flow → Input → Block → TablesState → Context → Context → Type 0
IsToldQuiet flow p b t old new =
    (left : List ℕ) (k : context.Context → List Event)
    → is_quiet (events never (input_of p) b (context_of t left old) k)
    ≡ is_quiet (record_after flow (k (context_of t left new)))

-- a block that changes some table, where the choices are legal
abbrev pub WritesSome : Input → Block → TablesState → Context → Type 0
WritesSome p b t c =
    (left : List ℕ) (k : context.Context → List Event)
    → is_quiet (events never (input_of p) b (context_of t left c) k) ≡ true
    → exec never (input_of p) b (context_of t left c) ≡ NoStep
