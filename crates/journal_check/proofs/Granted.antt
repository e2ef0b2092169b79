-- A step in which no `new` answers that its chain is full is the step that stops at each full chain.
use Rattle.std.proofs.Common.{◌≡◌, ℕ, Bool, true, false, List, [], ◌∷◌, map, Option, Some, None, slice_get, if◌then◌else◌, refl, sym, ap, ◌∙◌, subst}
use Rattle.nf_base.specs.Doors.{handler_at}
use Rattle.nf_base.specs.Families.{door_of}
use Rattle.nf_base.specs.declared.packet.Packet.{Packet}
use Rattle.nf_base.specs.declared.packet.Fields.{Fields}
use Rattle.nf_base.specs.declared.state.State.{State}
use Rattle.nf_base.specs.Text.{FallsOff, Flood, Discard, Forward, Block, End, Do, Ask, Make, Function}
use Rattle.nf_base.specs.Chains.{chain_at, maps_of, is_taken, is_full}
use Rattle.nf_base.specs.Context.{Context, Input, given}
use Rattle.nf_base.specs.Operations.{never, NewResult, Made, Taken, Full, Illegal, Stopped, chosen, new_result, with_new, answer, after}
use Rattle.nf_base.specs.Events.{Event, AskedNew}
use Rattle.nf_base.specs.Record.{is_full_answer, answers_full}
use Rattle.nf_base.specs.Course.{Completion, Normal, Ended, NoStep, StoppedAt, and_then, if_hit, if_new, exec, events}
use Rattle.nf_base.specs.Step.{StepResult, step_result, input, start_context, completes, records, step_of, record_of, step, step_by, recorded}
use Rattle.nf_laws.proofs.Plain.{plain_all, plain_did, plain_asked}
use Rattle.nf_laws.proofs.AlikeTold.{steps_alike}
use Rattle.nf_engine.specs.Stops.{full_stops}
use Rattle.shard_laws.proofs.Granting.{grants, full_plain, question_not_full}

-- what follows a course that falls off
abbrev IfFalls : Completion → (Context → Type 0) → Type 0
IfFalls (Normal c) P = P c
IfFalls (Ended a c) P = Unit {0}
IfFalls NoStep P = Unit {0}
IfFalls (StoppedAt chain left) P = Unit {0}

-- one course, and where it falls off what follows answers no `new` with full
record Same (x y : Completion) (k : Context → List Event) : Type 0 where
  pub same : x ≡ y
  pub rest : IfFalls y (λ d. answers_full (k d) ≡ false)

then_same : (x y : Completion) (f g : Context → Completion) (go k : Context → List Event) → Same x y go → ((d : Context) → answers_full (go d) ≡ false → Same (f d) (g d) k) → Same (and_then x f) (and_then y g) k
then_same x (Normal d) f g go k s h = let t = h d s.rest in record { same = ap (λ (z : Completion). and_then z f) s.same ∙ t.same; rest = t.rest }
then_same x (Ended a c) f g go k s h = record { same = ap (λ (z : Completion). and_then z f) s.same; rest = tt }
then_same x NoStep f g go k s h = record { same = ap (λ (z : Completion). and_then z f) s.same; rest = tt }
then_same x (StoppedAt chain left) f g go k s h = record { same = ap (λ (z : Completion). and_then z f) s.same; rest = tt }

hit_same : (o : Option Context) (f g : Context → Completion) (x y : Completion) (es : Context → List Event) (fs : List Event) (go : Context → List Event) → answers_full (if_hit o es fs) ≡ false → ((d : Context) → answers_full (es d) ≡ false → Same (f d) (g d) go) → (answers_full fs ≡ false → Same x y go) →
    Same (if_hit o f x) (if_hit o g y) go
hit_same (Some d) f g x y es fs go e h m = h d e
hit_same None f g x y es fs go e h m = m e

new_same : (to over : NewResult) (place chain : ℕ) (labels left : List ℕ) (f g : ℕ → Completion) (x y z w : Completion) (es : ℕ → List Event) (fs hs : List Event) (go : Context → List Event) → (is_full_answer to ≡ false → over ≡ to) →
    answers_full (AskedNew place chain labels to ∷ if_new to es fs hs [] []) ≡ false → ((i : ℕ) → answers_full (es i) ≡ false → Same (f i) (g i) go) → (answers_full fs ≡ false → Same x y go) →
    Same (if_new over f x z NoStep (StoppedAt chain left)) (if_new to g y w NoStep (StoppedAt chain left)) go
new_same (Made i) over place chain labels left f g x y z w es fs hs go same e h t = subst (λ (o : NewResult). Same (if_new o f x z NoStep (StoppedAt chain left)) (g i) go) (sym (same refl)) (h i e)
new_same Taken over place chain labels left f g x y z w es fs hs go same e h t = subst (λ (o : NewResult). Same (if_new o f x z NoStep (StoppedAt chain left)) y go) (sym (same refl)) (t e)
new_same Full over place chain labels left f g x y z w es fs hs go same e h t = cc
new_same Illegal over place chain labels left f g x y z w es fs hs go same e h t = subst (λ (o : NewResult). Same (if_new o f x z NoStep (StoppedAt chain left)) NoStep go) (sym (same refl)) (record { same = refl; rest = tt })
new_same Stopped over place chain labels left f g x y z w es fs hs go same e h t = subst (λ (o : NewResult). Same (if_new o f x z NoStep (StoppedAt chain left)) (StoppedAt chain left) go) (sym (same refl)) (record { same = refl; rest = tt })

-- a `new` that isn't full comes to the same where full chains stop
tests_same : (a c : Bool) (to : NewResult) → is_full_answer (if a then Taken else if false then Stopped else if c then Full else to) ≡ false → (if a then Taken else if c then Stopped else if c then Full else to) ≡ (if a then Taken else if false then Stopped else if c then Full else to)
tests_same true c to e = refl
tests_same false true to e = cc
tests_same false false to e = refl

granted_alike : (p : Input) (b : Block) (c : Context) (k : Context → List Event) → answers_full (events never p b c k) ≡ false → Same (exec full_stops p b c) (exec never p b c) k
granted_alike p (End FallsOff) c k e = record { same = refl; rest = e }
granted_alike p (End Flood) c k e = record { same = refl; rest = tt }
granted_alike p (End Discard) c k e = record { same = refl; rest = tt }
granted_alike p (End (Forward port)) c k e = record { same = refl; rest = tt }
granted_alike p (Do op next) c k e = granted_alike p next (after p c op) k (sym (plain_did answers_full full_plain p c op (events never p next (after p c op) k)) ∙ e)
granted_alike p (Ask q hit miss next) c k e =
    let go = λ (d : Context). events never p next d k in
    let es = if_hit (answer p c q) (λ d. events never p hit d go) (events never p miss c go) in
    let told : answers_full es ≡ false = sym (plain_asked answers_full full_plain.reads_ p c q es ∙ question_not_full p c q es) ∙ e in
    then_same (if_hit (answer p c q) (exec full_stops p hit) (exec full_stops p miss c)) (if_hit (answer p c q) (exec never p hit) (exec never p miss c)) (exec full_stops p next) (exec never p next) go k
    (hit_same (answer p c q) (exec full_stops p hit) (exec never p hit) (exec full_stops p miss c) (exec never p miss c) (λ d. events never p hit d go) (events never p miss c go) go told (λ d. granted_alike p hit d go) (granted_alike p miss c go))
    (λ d. granted_alike p next d k)
granted_alike p (Make n made taken full next) c k e =
    let chain = chain_at c.state.chains n.chain in
    let go = λ (d : Context). events never p next d k in
    let to = new_result never p c n in
    let es = AskedNew n.place n.chain (map (given p c) n.labels) to ∷ if_new to (λ i. events never p made (with_new p c n i) go) (events never p taken c go) (events never p full c go) [] [] in
    let told : answers_full es ≡ false = sym (plain_all answers_full full_plain.reads_ p c n.labels es) ∙ e in
    then_same (if_new (new_result full_stops p c n) (λ i. exec full_stops p made (with_new p c n i)) (exec full_stops p taken c) (exec full_stops p full c) NoStep (StoppedAt n.chain c.left))
    (if_new to (λ i. exec never p made (with_new p c n i)) (exec never p taken c) (exec never p full c) NoStep (StoppedAt n.chain c.left)) (exec full_stops p next) (exec never p next) go k
    (new_same to (new_result full_stops p c n) n.place n.chain (map (given p c) n.labels) c.left (λ i. exec full_stops p made (with_new p c n i)) (λ i. exec never p made (with_new p c n i)) (exec full_stops p taken c) (exec never p taken c) (exec full_stops p full c) (exec never p full c)
    (λ i. events never p made (with_new p c n i) go) (events never p taken c go) (events never p full c go) go
    (tests_same (is_taken (maps_of p.decls n.chain) (map (given p c) n.labels) chain.slots) (is_full chain.slots) (chosen chain.slots c.left)) told
    (λ i. granted_alike p made (with_new p c n i) go) (granted_alike p taken c go))
    (λ d. granted_alike p next d k)

-- ---- a packet's step

pub granted_step : (f : Function) (s : State) (packet : Packet) (choices : List ℕ) (r : StepResult) → answers_full (recorded f s packet choices) ≡ false → step f s packet choices ≡ Some r → step_by full_stops f s packet choices ≡ Some r
granted_step f s packet choices r = of_fields packet.fields
  where
    of_handler : (fields : Fields) (o : Option Block) → answers_full (records never f s packet.time fields choices o) ≡ false → step_result choices (completes never f s packet.time fields choices o) ≡ Some r → step_result choices (completes full_stops f s packet.time fields choices o) ≡ Some r
    of_handler fields None told e = e
    of_handler fields (Some block) told e = ap (step_result choices) (granted_alike (input f packet.time fields) block (start_context f s packet.time choices) (λ c. []) told).same ∙ e

    of_fields : (o : Option Fields) → answers_full (record_of never f s packet choices o) ≡ false → step_of never f s packet choices o ≡ Some r → step_of full_stops f s packet choices o ≡ Some r
    of_fields None told e = e
    of_fields (Some fields) told e = of_handler fields (handler_at f (door_of packet.id.port fields)) told e

none_full : (f : Function) (s : State) (packet : Packet) (choices : List ℕ) → answers_full (record_of full_stops f s packet choices packet.fields) ≡ false
none_full f s packet choices = of_fields packet.fields
  where
    of_handler : (fields : Fields) (o : Option Block) → answers_full (records full_stops f s packet.time fields choices o) ≡ false
    of_handler fields None = refl
    of_handler fields (Some block) = grants full_stops (input f packet.time fields) block (start_context f s packet.time choices) (λ c. []) (λ k now room. room) (λ d. refl)

    of_fields : (o : Option Fields) → answers_full (record_of full_stops f s packet choices o) ≡ false
    of_fields None = refl
    of_fields (Some fields) = of_handler fields (handler_at f (door_of packet.id.port fields))

pub meets_none : (f : Function) (s : State) (packet : Packet) (choices : List ℕ) (r : StepResult) → step_by full_stops f s packet choices ≡ Some r → answers_full (recorded f s packet choices) ≡ false
meets_none f s packet choices r e = ap answers_full (sym (steps_alike full_stops f s packet choices r e).told) ∙ none_full f s packet choices
