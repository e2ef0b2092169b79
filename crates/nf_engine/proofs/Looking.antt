-- What is run without a write is a packet's step.
use Rattle.std.proofs.Common.{◌≡◌, ◌∙◌, ap, ap₂, sym, refl, ℕ, suc, Bool, true, false, not, List, [], ◌∷◌, map, Option, Some, None, if◌then◌else◌}
use Rattle.std.proofs.lemmas.Bool.{and_parts}
use Rattle.nf_base.specs.Doors.{handler_at}
use Rattle.nf_base.specs.Families.{door_of}
use Rattle.nf_base.specs.declared.done.Done.{Done}
use Rattle.nf_base.specs.declared.done.Action.TheVariants.{Skip}
use Rattle.nf_base.specs.declared.packet.Packet.{Packet}
use Rattle.nf_base.specs.declared.packet.Fields.{Fields}
use Rattle.nf_base.specs.declared.state.Entry.{Entry}
use Rattle.nf_base.specs.declared.state.Chain.{Chain}
use Rattle.nf_base.specs.declared.state.State.{State}
use Rattle.nf_base.specs.Chains.{alive, is_due, none_due, all_none_due, expired, lifetime_of}
use Rattle.nf_base.specs.Context as meant
use Rattle.nf_base.specs.Course.{exec, events}
use Rattle.nf_base.specs.Operations.{never}
use Rattle.nf_base.specs.Record.{is_quiet}
use Rattle.nf_base.specs.Step.{StepResult, step_result, step, quiet, recorded, completes, expired_state, skipped, start_context, no_edits}
use Rattle.nf_base.specs.Text.{Block, Function}
use Rattle.vig_tables.specs.TablesState.{TablesState}
use Rattle.nf_engine.specs.declared.context.Context.{Context}
use Rattle.nf_engine.specs.Input.{Input}
use Rattle.nf_engine.specs.declared.context.Flow.{Flow}
use Rattle.nf_engine.specs.declared.context.Flow.TheVariants.{Falls, Drop, Flood, To}
use Rattle.nf_engine.specs.Handlings.{finished}
use Rattle.nf_engine.specs.Looks.{IsQuietStep, AlwaysWrites}
use Rattle.nf_engine.specs.Quiet.{record_after, GoesQuietly, IsToldQuiet, WritesSome}
use Rattle.nf_engine.specs.View.{context_of, input_of, action_of}
use Rattle.nf_engine.proofs.Finishing.{Begins, ended}

-- where nothing is due expiry leaves the chains
not_due : (time lifetime : ℕ) (s : Option Entry) → is_due time lifetime s ≡ false → alive time lifetime s ≡ s
not_due time lifetime None e = refl
not_due time lifetime (Some entry) e = rw e refl

if_due : (b x : Bool) → (if b then false else x) ≡ true → (b ≡ false) × (x ≡ true)
if_due true x e = cc
if_due false x e = (refl, e)

slots_stay : (time lifetime : ℕ) (slots : List (Option Entry)) → none_due time lifetime slots ≡ true → map (alive time lifetime) slots ≡ slots
slots_stay time lifetime [] e = refl
slots_stay time lifetime (s ∷ slots) e =
    let w = if_due (is_due time lifetime s) (none_due time lifetime slots) e in
    ap₂ (λ x xs. x ∷ xs) (not_due time lifetime s w.0) (slots_stay time lifetime slots w.1)

chains_stay : (time : ℕ) (lifetime : ℕ → ℕ) (chains : List Chain) → all_none_due time lifetime chains ≡ true → expired time lifetime chains ≡ chains
chains_stay time lifetime [] e = refl
chains_stay time lifetime (c ∷ chains) e =
    let w = and_parts (none_due time (lifetime 0) c.slots) (all_none_due time (λ k. lifetime (suc k)) chains) e in
    ap₂ (λ x xs. x ∷ xs) (ap (λ slots. record c { slots = slots }) (slots_stay time (lifetime 0) c.slots w.0)) (chains_stay time (λ k. lifetime (suc k)) chains w.1)

pub state_stays : (f : Function) (time : ℕ) (s : State) → all_none_due time (lifetime_of f.chains) s.chains ≡ true → expired_state f time s ≡ s
state_stays f time s e = ap (λ chains. record s { chains = chains }) (chains_stay time (lifetime_of f.chains) s.chains e)

-- how a handler completes in the undivided step, and its record
completes_as : (p : Input) (f : Function) (s : State) (packet : Packet) (fields : Fields) (b : Block) (t : TablesState) (start : Context) (choices : List ℕ) → Begins p f s packet fields b t start → completes never f s packet.time fields choices (handler_at f (door_of packet.id.port fields)) ≡ exec never (input_of p) b (context_of t choices start)
completes_as p f s packet fields b t start choices h =
    rw h.handler
    (ap (λ (q : meant.Input). exec never q b (start_context f s packet.time choices)) (sym h.input_is)
    ∙ ap (λ (c : meant.Context). exec never (input_of p) b c) (sym (h.context choices)))

step_as : (p : Input) (f : Function) (s : State) (packet : Packet) (fields : Fields) (b : Block) (t : TablesState) (start : Context) (choices : List ℕ) → Begins p f s packet fields b t start → packet.fields ≡ Some fields → step f s packet choices ≡ step_result choices (exec never (input_of p) b (context_of t choices start))
step_as p f s packet fields b t start choices h has = rw has (ap (step_result choices) (completes_as p f s packet fields b t start choices h))

recorded_as : (p : Input) (f : Function) (s : State) (packet : Packet) (fields : Fields) (b : Block) (t : TablesState) (start : Context) (choices : List ℕ) → Begins p f s packet fields b t start → packet.fields ≡ Some fields → recorded f s packet choices ≡ events never (input_of p) b (context_of t choices start) (λ c. [])
recorded_as p f s packet fields b t start choices h has =
    rw (has, h.handler)
    (ap (λ (q : meant.Input). events never q b (start_context f s packet.time choices) (λ c. [])) (sym h.input_is)
    ∙ ap (λ (c : meant.Context). events never (input_of p) b c (λ c. [])) (sym (h.context choices)))

-- whether a step is quiet, where nothing is due
quiet_as : (f : Function) (s : State) (packet : Packet) (fields : Fields) (choices : List ℕ) (r : StepResult) (b : Bool) → packet.fields ≡ Some fields → step f s packet choices ≡ Some r → all_none_due packet.time (lifetime_of f.chains) s.chains ≡ true → is_quiet (recorded f s packet choices) ≡ b → quiet f s packet choices ≡ Some b
quiet_as f s packet fields choices r b has is none told = rw (is, has, none, rw has at told) refl

nothing_after : (flow : Flow) → is_quiet (record_after flow []) ≡ true
nothing_after Falls = refl
nothing_after Drop = refl
nothing_after Flood = refl
nothing_after (To port) = refl

only_none : (choices : List ℕ) (s : State) (done : Done) (r : StepResult) → finished choices choices s done ≡ Some r → choices ≡ []
only_none [] s done r e = refl
only_none (i ∷ choices) s done r e = cc

pub looks_done : (p : Input) (f : Function) (packet : Packet) (fields : Fields) (b : Block) (t : TablesState) (start new : Context) (flow : Flow) → Begins p f t.state packet fields b t start → packet.fields ≡ Some fields → all_none_due packet.time (lifetime_of f.chains) t.state.chains ≡ true → GoesQuietly flow p b t start new → IsToldQuiet flow p b t start new → IsQuietStep f t.state packet (record { action = action_of flow; edits = new.edits; picks = [] })
looks_done p f packet fields b t start new flow h has none goes told =
    let s = t.state in
    let done : Done = record { action = action_of flow; edits = new.edits; picks = new.picks } in
    let step_at : (choices : List ℕ) → step f s packet choices ≡ finished choices choices s done = λ choices. step_as p f s packet fields b t start choices h has ∙ ap (step_result choices) (goes choices) ∙ ended choices choices flow t new in
    let quiet_told : is_quiet (recorded f s packet []) ≡ true = ap is_quiet (recorded_as p f s packet fields b t start [] h has) ∙ told [] (λ c. []) ∙ nothing_after flow in
    record {
      step_is = step_at [];
      quiet_is = quiet_as f s packet fields [] (record { state = s; done = record { action = action_of flow; edits = new.edits; picks = [] } }) true has (step_at []) none quiet_told;
      only = λ choices r e. only_none choices s done r (sym (step_at choices) ∙ e);
    }

-- what is not quiet, unless there is no step
not_quiet : (b : Bool) → (b ≡ true → ⊥) → b ≡ false
not_quiet true h = absurd (h refl)
not_quiet false h = refl

pub looks_write : (p : Input) (f : Function) (packet : Packet) (fields : Fields) (b : Block) (t : TablesState) (start : Context) → Begins p f t.state packet fields b t start → packet.fields ≡ Some fields → all_none_due packet.time (lifetime_of f.chains) t.state.chains ≡ true → WritesSome p b t start → AlwaysWrites f t.state packet
looks_write p f packet fields b t start h has none writes = λ choices r is.
    let s = t.state in
    let told = recorded_as p f s packet fields b t start choices h has in
    let steps = step_as p f s packet fields b t start choices h has in
    let no_step = λ (q : is_quiet (recorded f s packet choices) ≡ true). writes choices (λ c. []) (ap is_quiet (sym told) ∙ q) in
    quiet_as f s packet fields choices r false has is none
    (not_quiet (is_quiet (recorded f s packet choices)) (λ q. some_or_none r (sym is ∙ steps ∙ ap (step_result choices) (no_step q))))
  where
    some_or_none : (r : StepResult) → ◌≡◌ {A = Option StepResult} (Some r) None → ⊥
    some_or_none r e = cc

-- something is past its lifetime
pub due_writes : (f : Function) (s : State) (packet : Packet) (fields : Fields) → packet.fields ≡ Some fields → not (all_none_due packet.time (lifetime_of f.chains) s.chains) ≡ true → AlwaysWrites f s packet
due_writes f s packet fields has due = λ choices r is.
    let past = is_false (all_none_due packet.time (lifetime_of f.chains) s.chains) due in
    rw (is, has, past) refl
  where
    is_false : (b : Bool) → not b ≡ true → b ≡ false
    is_false true e = cc
    is_false false e = refl

-- a skipped packet
pub skips : (f : Function) (s : State) (packet : Packet) → packet.fields ≡ None → IsQuietStep f s packet (record { action = Skip; edits = no_edits; picks = [] })
skips f s packet none = record {
  step_is = rw none refl;
  quiet_is = rw none refl;
  only = λ choices r e. takes_none choices r (rw none at e);
}
  where
    takes_none : (choices : List ℕ) (r : StepResult) → skipped s choices ≡ Some r → choices ≡ []
    takes_none [] r e = refl
    takes_none (i ∷ choices) r e = cc
