-- A step that is quiet changes nothing.
use Rattle.std.proofs.Common.{◌≡◌, ℕ, suc, Bool, true, false, ◌&&◌, List, [], ◌∷◌, map, Option, Some, None, slice_get, if◌then◌else◌, refl, ap, ap₂, sym, ◌∙◌}
use Rattle.std.specs.Option.{option_map}
use Rattle.std.proofs.lemmas.Option.{same_Some}
use Rattle.std.proofs.lemmas.Bool.{and_parts}
use Rattle.nf_base.specs.Doors.{handler_at}
use Rattle.nf_base.specs.Families.{door_of}
use Rattle.nf_base.specs.declared.packet.Packet.{Packet}
use Rattle.nf_base.specs.declared.packet.Fields.{Fields}
use Rattle.nf_base.specs.declared.state.Entry.{Entry}
use Rattle.nf_base.specs.declared.state.Chain.{Chain}
use Rattle.nf_base.specs.declared.state.State.{State}
use Rattle.nf_base.specs.declared.done.Action.{Action}
use Rattle.nf_base.specs.Text.{Function, Block}
use Rattle.nf_base.specs.Chains.{alive, expired, lifetime_of, is_due, none_due, all_none_due}
use Rattle.nf_base.specs.Context.{Context}
use Rattle.nf_base.specs.Operations.{never, Made, Taken, Full, Illegal, Stopped}
use Rattle.nf_base.specs.Events.{Event, Tested, LookedUp, Found, AskedNew, EntryUsed, EntryFreed, CellRead, CellWritten}
use Rattle.nf_base.specs.Course.{Completion, Normal, Ended, NoStep, StoppedAt}
use Rattle.nf_base.specs.Record.{changes, is_quiet}
use Rattle.nf_base.specs.Step.{StepResult, if_none_left, step_result, expired_state, input, start_context, completes, records, step_of, record_of, step, recorded, expires_nothing, quiet}
use Rattle.nf_base.specs.Locations.{Numbers, numbers_after, all_numbers}
use Rattle.nf_laws.specs.Quiet.{QuietAnswersSteps, QuietIsSame, QuietNumbersNothing}
use Rattle.nf_laws.proofs.Quietly.{LeavesState, course_same}

map_none : {A B : Type 0} (f : A → B) (o : Option A) → option_map f o ≡ None → o ≡ None
map_none f None e = refl
map_none f (Some x) e = cc

pub quiet_answers : QuietAnswersSteps
quiet_answers f s packet choices = (map_none _ (step f s packet choices), λ e. rw e refl)

-- where a step is quiet or not, it is by expiry and by its record
pub said : (f : Function) (s : State) (packet : Packet) (choices : List ℕ) (b : Bool) → quiet f s packet choices ≡ Some b → (expires_nothing f s packet.time packet.fields && is_quiet (recorded f s packet choices)) ≡ b
said f s packet choices b e = of (step f s packet choices) e
  where
    of : (o : Option StepResult) → option_map (λ (r : StepResult). expires_nothing f s packet.time packet.fields && is_quiet (recorded f s packet choices)) o ≡ Some b → (expires_nothing f s packet.time packet.fields && is_quiet (recorded f s packet choices)) ≡ b
    of None q = cc
    of (Some r) q = same_Some _ _ q

-- nothing is due: expiry leaves the chains
not_due : (time lifetime : ℕ) (s : Option Entry) → is_due time lifetime s ≡ false → alive time lifetime s ≡ s
not_due time lifetime None e = refl
not_due time lifetime (Some entry) e = rw e refl

if_due : (b x : Bool) → (if b then false else x) ≡ true → (b ≡ false) × (x ≡ true)
if_due true x e = cc
if_due false x e = (refl, e)

slots_stay : (time lifetime : ℕ) (slots : List (Option Entry)) → none_due time lifetime slots ≡ true → map (alive time lifetime) slots ≡ slots
slots_stay time lifetime [] e = refl
slots_stay time lifetime (s ∷ slots) e =
    let w = if_due (is_due time lifetime s) (none_due time lifetime slots) e in ap₂ (λ x xs. x ∷ xs) (not_due time lifetime s w.0) (slots_stay time lifetime slots w.1)

chains_stay : (time : ℕ) (lifetime : ℕ → ℕ) (chains : List Chain) → all_none_due time lifetime chains ≡ true → expired time lifetime chains ≡ chains
chains_stay time lifetime [] e = refl
chains_stay time lifetime (c ∷ chains) e =
    let w = and_parts (none_due time (lifetime 0) c.slots) (all_none_due time (λ k. lifetime (suc k)) chains) e in
    ap₂ (λ x xs. x ∷ xs) (ap (λ slots. record c { slots = slots }) (slots_stay time (lifetime 0) c.slots w.0)) (chains_stay time (λ k. lifetime (suc k)) chains w.1)

pub state_stays : (f : Function) (time : ℕ) (s : State) → all_none_due time (lifetime_of f.chains) s.chains ≡ true → expired_state f time s ≡ s
state_stays f time s e = ap (λ chains. record s { chains = chains }) (chains_stay time (lifetime_of f.chains) s.chains e)

-- a quiet step
left_same : (s : State) (choices left : List ℕ) (c : Context) (a : Action) (r : StepResult) → c.state ≡ s → if_none_left choices left c a ≡ Some r → r.state ≡ s
left_same s choices [] c a r h e = ap (λ (x : StepResult). x.state) (sym (same_Some _ _ e)) ∙ h
left_same s choices (i ∷ left) c a r h e = cc

result_same : (s : State) (choices : List ℕ) (w : Completion) (r : StepResult) → LeavesState s w → step_result choices w ≡ Some r → r.state ≡ s
result_same s choices (Normal c) r h e = left_same s choices c.left c _ r h e
result_same s choices (Ended a c) r h e = left_same s choices c.left c a r h e
result_same s choices NoStep r h e = cc
result_same s choices (StoppedAt chain left) r h e = cc

handler_same : (f : Function) (s : State) (time : ℕ) (fields : Fields) (choices : List ℕ) (handler : Option Block) → is_quiet (records never f s time fields choices handler) ≡ true → LeavesState (expired_state f time s) (completes never f s time fields choices handler)
handler_same f s time fields choices None e = tt
handler_same f s time fields choices (Some block) e = course_same never (input f time fields) block (start_context f s time choices) e

of_fields : (f : Function) (s : State) (packet : Packet) (choices : List ℕ) (r : StepResult) (o : Option Fields) → (expires_nothing f s packet.time o && is_quiet (record_of never f s packet choices o)) ≡ true → step_of never f s packet choices o ≡ Some r → r.state ≡ s
of_fields f s packet [] r None e q = ap (λ (x : StepResult). x.state) (sym (same_Some _ _ q))
of_fields f s packet (i ∷ choices) r None e q = cc
of_fields f s packet choices r (Some fields) e q =
    let handler = handler_at f (door_of packet.id.port fields) in
    let w = and_parts (all_none_due packet.time (lifetime_of f.chains) s.chains) (is_quiet (records never f s packet.time fields choices handler)) e in
    result_same (expired_state f packet.time s) choices (completes never f s packet.time fields choices handler) r (handler_same f s packet.time fields choices handler w.1) q ∙ state_stays f packet.time s w.0

pub quiet_same : QuietIsSame
quiet_same f s packet choices r e q = of_fields f s packet choices r packet.fields (said f s packet choices true e) q

-- no entry is numbered
event_still : (ns : Numbers) (e : Event) → changes e ≡ false → numbers_after ns e ≡ ns
event_still ns (AskedNew place chain labels (Made i)) q = cc
event_still ns (AskedNew place chain labels Taken) q = refl
event_still ns (AskedNew place chain labels Full) q = refl
event_still ns (AskedNew place chain labels Illegal) q = refl
event_still ns (AskedNew place chain labels Stopped) q = refl
event_still ns (Tested place holds) q = refl
event_still ns (LookedUp place chain m key hit) q = refl
event_still ns (Found place chain hit) q = refl
event_still ns (EntryUsed chain i changed) q = refl
event_still ns (EntryFreed chain i) q = refl
event_still ns (CellRead place array i) q = refl
event_still ns (CellWritten place array i changed) q = refl

numbers_still : (es : List Event) (ns : Numbers) → is_quiet es ≡ true → all_numbers ns es ≡ ns
numbers_still [] ns e = refl
numbers_still (x ∷ es) ns e = let w = if_due (changes x) (is_quiet es) e in ap (λ m. all_numbers m es) (event_still ns x w.0) ∙ numbers_still es ns w.1

pub quiet_numbers : QuietNumbersNothing
quiet_numbers f s packet choices ns e =
    numbers_still (recorded f s packet choices) ns (and_parts (expires_nothing f s packet.time packet.fields) (is_quiet (recorded f s packet choices)) (said f s packet choices true e)).1
