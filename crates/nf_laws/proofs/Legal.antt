-- A step is there exactly where its record is legal and takes each choice.
use Rattle.std.proofs.Common.{◌≡◌, ◌<◌, ◌≤◌, length, zero, suc, ℕ, true, ◌==◌, List, [], ◌∷◌, ◌++◌, Option, Some, None, slice_get, refl, ap, sym, ◌∙◌, subst, IsSome, arith, eq-eqb, eqb-true, append-nil, inl, inr}
use Rattle.std.specs.Option.{option_and_then}
use Rattle.std.proofs.lemmas.Option.{same_Some}
use Rattle.std.proofs.lemmas.Bool.{cases_Bool}
use Rattle.nf_laws.proofs.Doors.{none_past}
use Rattle.nf_base.specs.Doors.{handler_at}
use Rattle.nf_base.specs.Families.{door_of}
use Rattle.nf_base.specs.declared.packet.Packet.{Packet}
use Rattle.nf_base.specs.declared.packet.Fields.{Fields}
use Rattle.nf_base.specs.declared.state.State.{State}
use Rattle.nf_base.specs.declared.done.Action.{Action}
use Rattle.nf_base.specs.Text.{Block, Function}
use Rattle.nf_base.specs.Context.{Context}
use Rattle.nf_base.specs.Operations.{Made, Taken, Full, Illegal, Stopped, never}
use Rattle.nf_base.specs.Events.{Event, AskedNew}
use Rattle.nf_base.specs.Course.{Completion, Normal, Ended, NoStep, StoppedAt, and_then, exec}
use Rattle.nf_base.specs.Record.{is_legal, indices_made}
use Rattle.nf_base.specs.Step.{StepResult, if_none_left, step_result, input, start_context, completes, records, step_of, record_of}
use Rattle.nf_laws.specs.Steps.{StepsAreLegal, LegalStepsAre, IsLegalRecord, OtherPortsHaveNone, HasHandler, skips, handles}
use Rattle.nf_laws.proofs.Consumed.{taken, unused, left_of, consumes}

pub taken_head : (i : ℕ) (left rest : List ℕ) → taken i left ≡ Some rest → left ≡ i ∷ rest
taken_head i [] rest e = cc
taken_head i (j ∷ left) rest e = elim (cases_Bool (i == j)) [
  | inl same ↦ let f : left ≡ rest = same_Some _ _ (rw same at e) in rw (eqb-true i j same, f) refl
  | inr other ↦ let f : None ≡ Some rest = rw other at e in cc
]

says_made : (es : List Event) (i : ℕ) (left rest : List ℕ) (o : Option (List ℕ)) → taken i left ≡ o → ((left rest : List ℕ) → unused es left ≡ Some rest → (is_legal es ≡ true) × (left ≡ indices_made es ++ rest)) →
    option_and_then (unused es) o ≡ Some rest → (is_legal es ≡ true) × (left ≡ i ∷ (indices_made es ++ rest))
says_made es i left rest None t h e = cc
says_made es i left rest (Some more) t h e = let s = h more rest e in (s.0, taken_head i left more t ∙ ap (λ xs. i ∷ xs) s.1)

-- what a record that leaves something over says
pub says : (es : List Event) (left rest : List ℕ) → unused es left ≡ Some rest → (is_legal es ≡ true) × (left ≡ indices_made es ++ rest)
says [] left rest e = (refl, same_Some _ _ e)
says (AskedNew place chain labels (Made i) ∷ es) left rest e = says_made es i left rest (taken i left) refl (says es) e
says (AskedNew place chain labels Taken ∷ es) left rest e = says es left rest e
says (AskedNew place chain labels Full ∷ es) left rest e = says es left rest e
says (AskedNew place chain labels Illegal ∷ es) left rest e = cc
says (AskedNew place chain labels Stopped ∷ es) left rest e = cc
says (x ∷ es) left rest e = says es left rest e

pub taken_first : (i : ℕ) (left : List ℕ) → taken i (i ∷ left) ≡ Some left
taken_first i left = rw (eq-eqb i i refl) refl

pub takes : (es : List Event) (rest : List ℕ) → is_legal es ≡ true → unused es (indices_made es ++ rest) ≡ Some rest
takes [] rest e = refl
takes (AskedNew place chain labels (Made i) ∷ es) rest e = ap (option_and_then (unused es)) (taken_first i (indices_made es ++ rest)) ∙ takes es rest e
takes (AskedNew place chain labels Taken ∷ es) rest e = takes es rest e
takes (AskedNew place chain labels Full ∷ es) rest e = takes es rest e
takes (AskedNew place chain labels Illegal ∷ es) rest e = cc
takes (AskedNew place chain labels Stopped ∷ es) rest e = cc
takes (x ∷ es) rest e = takes es rest e

pub then_normal : (w : Completion) → and_then w Normal ≡ w
then_normal (Normal c) = refl
then_normal (Ended a c) = refl
then_normal NoStep = refl
then_normal (StoppedAt chain left) = refl

none_left : (choices left : List ℕ) (c : Context) (a : Action) (r : StepResult) → if_none_left choices left c a ≡ Some r → Some left ≡ Some []
none_left choices [] c a r e = refl
none_left choices (i ∷ left) c a r e = cc

settles : (choices : List ℕ) (w : Completion) (r : StepResult) → step_result choices w ≡ Some r → left_of w ≡ Some []
settles choices (Normal c) r e = none_left choices c.left c _ r e
settles choices (Ended a c) r e = none_left choices c.left c a r e
settles choices NoStep r e = cc
settles choices (StoppedAt chain left) r e = cc

answers : (choices left : List ℕ) (c : Context) (a : Action) → left ≡ [] → (r : StepResult) × (if_none_left choices left c a ≡ Some r)
answers choices [] c a e = (_, refl)
answers choices (i ∷ left) c a e = cc

pub settles_back : (choices : List ℕ) (w : Completion) → left_of w ≡ Some [] → (r : StepResult) × (step_result choices w ≡ Some r)
settles_back choices (Normal c) e = answers choices c.left c _ (same_Some _ _ e)
settles_back choices (Ended a c) e = answers choices c.left c a (same_Some _ _ e)
settles_back choices NoStep e = cc
settles_back choices (StoppedAt chain left) e = cc

-- the choices left over by a handler are those that its record leaves over
pub leaves : (f : Function) (s : State) (time : ℕ) (fields : Fields) (choices : List ℕ) (block : Block) → left_of (completes never f s time fields choices (Some block)) ≡ unused (records never f s time fields choices (Some block)) choices
leaves f s time fields choices block =
    ap left_of (sym (then_normal (exec never (input f time fields) block (start_context f s time choices))))
    ∙ consumes never (input f time fields) block (start_context f s time choices) Normal (λ _. []) (λ d. refl)

legal_on : (f : Function) (s : State) (packet : Packet) (choices : List ℕ) (fields : Fields) (handler : Option Block) (r : StepResult) → handler_at f (door_of packet.id.port fields) ≡ handler →
    step_of never f s packet choices (Some fields) ≡ Some r → IsLegalRecord (record_of never f s packet choices (Some fields)) choices
legal_on f s packet choices fields None r at e = let e = rw at at e in cc
legal_on f s packet choices fields (Some block) r at e =
    let told = says (records never f s packet.time fields choices (Some block)) choices [] (sym (leaves f s packet.time fields choices block) ∙ settles choices (completes never f s packet.time fields choices (Some block)) r (rw at at e)) in
    rw at (record { legal = told.0; made = sym (append-nil _) ∙ sym told.1 })

legal : (f : Function) (s : State) (packet : Packet) (choices : List ℕ) (fields : Option Fields) (r : StepResult) →
    step_of never f s packet choices fields ≡ Some r → IsLegalRecord (record_of never f s packet choices fields) choices
legal f s packet [] None r e = record { legal = refl; made = refl }
legal f s packet (i ∷ choices) None r e = cc
legal f s packet choices (Some fields) r e = legal_on f s packet choices fields (handler_at f (door_of packet.id.port fields)) r refl e

pub steps_legal : StepsAreLegal
steps_legal f s packet choices r e = legal f s packet choices packet.fields r e

-- a handler that is there
pub has_some : {A : Type 0} (o : Option A) → IsSome o → (x : A) × (o ≡ Some x)
has_some None has = cc
has_some (Some x) has = (x, refl)

at_port : (f : Function) (s : State) (packet : Packet) (choices : List ℕ) (fields : Fields) (block : Block) → handler_at f (door_of packet.id.port fields) ≡ Some block →
    IsLegalRecord (record_of never f s packet choices (Some fields)) choices → (r : StepResult) × (step_of never f s packet choices (Some fields) ≡ Some r)
at_port f s packet choices fields block at h =
    let es = records never f s packet.time fields choices (Some block) in
    let l2 : is_legal es ≡ true = rw at at h.legal in
    let i2 : indices_made es ≡ choices = rw at at h.made in
    let t : unused es choices ≡ Some [] = subst (λ (left : List ℕ). unused es left ≡ Some []) (append-nil _ ∙ i2) (takes es [] l2) in
    rw at (settles_back choices (completes never f s packet.time fields choices (Some block)) (leaves f s packet.time fields choices block ∙ t))

back : (f : Function) (s : State) (packet : Packet) (choices : List ℕ) (fields : Option Fields) → HasHandler f packet → packet.fields ≡ fields →
    IsLegalRecord (record_of never f s packet choices fields) choices → (r : StepResult) × (step_of never f s packet choices fields ≡ Some r)
back f s packet [] None h q l = (_, refl)
back f s packet (j ∷ choices) None h q l = let made = l.made in cc
back f s packet choices (Some fields) (skips none) q l = cc
back f s packet choices (Some fields) (handles fs q2 has) q l =
    let same : fs ≡ fields = same_Some _ _ (sym q2 ∙ q) in
    let there = subst (λ (x : Fields). (block : Block) × (handler_at f (door_of packet.id.port x) ≡ Some block)) same (has_some (handler_at f (door_of packet.id.port fs)) has) in
    at_port f s packet choices fields there.0 there.1 l

pub legal_steps : LegalStepsAre
legal_steps f s packet choices h l = back f s packet choices packet.fields h refl l

pub other_ports : OtherPortsHaveNone
other_ports f s packet fields choices e le = rw (e, none_past f.handlers packet.id.port le) refl
