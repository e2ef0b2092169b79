-- What each operation and each `new` of a text keeps, its courses keep.
use Rattle.std.proofs.Common.{◌≡◌, ℕ, Bool, true, false, List, [], ◌∷◌, map, Contains, Option, Some, None, slice_get, if◌then◌else◌, refl, ap, sym, subst}
use Rattle.std.specs.Option.{option_map}
use Rattle.std.proofs.lemmas.Option.{same_Some}
use Rattle.nf_base.specs.Doors.{blocks, handler_at}
use Rattle.nf_base.specs.Families.{door_of}
use Rattle.nf_base.specs.declared.packet.Packet.{Packet}
use Rattle.nf_base.specs.declared.packet.Fields.{Fields}
use Rattle.nf_base.specs.declared.state.State.{State}
use Rattle.nf_base.specs.declared.done.Action.{Action}
use Rattle.nf_base.specs.Text.{FallsOff, Flood, Discard, Forward, Operation, Question, Get, Find, Test, Creation, Block, End, Do, Ask, Make, Function}
use Rattle.nf_base.specs.Statements.{Statement, Does, Makes, statements}
use Rattle.nf_base.specs.Values.{compares}
use Rattle.nf_base.specs.Context.{Context, Input, value, given}
use Rattle.nf_base.specs.Operations.{Stops, NewResult, Made, Taken, Full, Illegal, Stopped, new_result, with_new, answer, after, bound, key_found, index_found}
use Rattle.nf_base.specs.Course.{Completion, Normal, Ended, NoStep, StoppedAt, and_then, if_hit, if_new, exec}
use Rattle.nf_base.specs.Step.{StepResult, if_none_left, step_result, skipped, input, start_context, expired_state, completes, step_of}
use Rattle.nf_laws.proofs.Listed.{here}
use Rattle.nf_laws.proofs.Doors.{at_door}
use Rattle.nf_laws.proofs.Within.{in_next, in_hit, in_miss, after_ask, in_made, in_taken, in_full, after_make}

-- a fact of states that what these statements do keeps
pub record IsKept (stops : Stops) (p : Input) (ok : Statement → Type 0) (P : State → Type 0) : Type 0 where
  pub does : (op : Operation) (c : Context) → ok (Does op) → P c.state → P (after p c op).state
  pub makes : (n : Creation) (c : Context) (i : ℕ) → ok (Makes n) → new_result stops p c n ≡ Made i → P c.state → P (with_new p c n i).state

-- it holds where a course ends
abbrev pub EndsIn : (State → Type 0) → Completion → Type 0
EndsIn P (Normal c) = P c.state
EndsIn P (Ended a c) = P c.state
EndsIn P NoStep = Unit {0}
EndsIn P (StoppedAt chain left) = Unit {0}

then_ends : (P : State → Type 0) (w : Completion) (go : Context → Completion) → EndsIn P w → ((d : Context) → P d.state → EndsIn P (go d)) → EndsIn P (and_then w go)
then_ends P (Normal c) go h next = next c h
then_ends P (Ended a c) go h next = h
then_ends P NoStep go h next = tt
then_ends P (StoppedAt chain left) go h next = tt

-- a question leaves the state
map_state : (var chain : ℕ) (c d : Context) (o : Option ℕ) → option_map (bound var chain c) o ≡ Some d → d.state ≡ c.state
map_state var chain c d None e = cc
map_state var chain c d (Some i) e = ap (λ (x : Context). x.state) (sym (same_Some _ _ e))

test_state : (b : Bool) (c d : Context) → (if b then Some c else None) ≡ Some d → d.state ≡ c.state
test_state true c d e = ap (λ (x : Context). x.state) (sym (same_Some _ _ e))
test_state false c d e = cc

pub answer_state : (p : Input) (c d : Context) (q : Question) → answer p c q ≡ Some d → d.state ≡ c.state
answer_state p c d (Get place chain m key var) e = map_state var chain c d (key_found p c chain m (map (given p c) key)) e
answer_state p c d (Find place chain at guards var) e = map_state var chain c d (index_found p c chain (value p c at) guards) e
answer_state p c d (Test place comparison a b) e = test_state (compares comparison (value p c a) (value p c b)) c d e

hit_ends : (P : State → Type 0) (s : State) (o : Option Context) (f : Context → Completion) (x : Completion) → P s → ((d : Context) → o ≡ Some d → d.state ≡ s) → ((d : Context) → P d.state → EndsIn P (f d)) → EndsIn P x → EndsIn P (if_hit o f x)
hit_ends P s (Some d) f x h same hit miss = hit d (subst P (sym (same d refl)) h)
hit_ends P s None f x h same hit miss = miss

new_ends : (P : State → Type 0) (to : NewResult) (chain : ℕ) (left : List ℕ) (f : ℕ → Completion) (x y : Completion) → ((i : ℕ) → to ≡ Made i → EndsIn P (f i)) → EndsIn P x → EndsIn P y → EndsIn P (if_new to f x y NoStep (StoppedAt chain left))
new_ends P (Made i) chain left f x y m t u = m i refl
new_ends P Taken chain left f x y m t u = t
new_ends P Full chain left f x y m t u = u
new_ends P Illegal chain left f x y m t u = tt
new_ends P Stopped chain left f x y m t u = tt

pub exec_keeps : (stops : Stops) (p : Input) (ok : Statement → Type 0) (P : State → Type 0) → IsKept stops p ok P → (b : Block) (c : Context) → ((s : Statement) → Contains (statements b) s → ok s) → P c.state → EndsIn P (exec stops p b c)
exec_keeps stops p ok P kept (End FallsOff) c among h = h
exec_keeps stops p ok P kept (End Flood) c among h = h
exec_keeps stops p ok P kept (End Discard) c among h = h
exec_keeps stops p ok P kept (End (Forward port)) c among h = h
exec_keeps stops p ok P kept (Do op next) c among h =
    exec_keeps stops p ok P kept next (after p c op) (λ s i. among s (in_next op next s i)) (kept.does op c (among (Does op) (here (Does op) (statements next))) h)
exec_keeps stops p ok P kept (Ask q hit miss next) c among h =
    then_ends P (if_hit (answer p c q) (exec stops p hit) (exec stops p miss c)) (exec stops p next)
    (hit_ends P c.state (answer p c q) (exec stops p hit) (exec stops p miss c) h (λ d e. answer_state p c d q e)
    (λ d. exec_keeps stops p ok P kept hit d (λ s i. among s (in_hit q hit miss next s i))) (exec_keeps stops p ok P kept miss c (λ s i. among s (in_miss q hit miss next s i)) h))
    (λ d. exec_keeps stops p ok P kept next d (λ s i. among s (after_ask q hit miss next s i)))
exec_keeps stops p ok P kept (Make n made taken full next) c among h =
    then_ends P (if_new (new_result stops p c n) (λ i. exec stops p made (with_new p c n i)) (exec stops p taken c) (exec stops p full c) NoStep (StoppedAt n.chain c.left)) (exec stops p next)
    (new_ends P (new_result stops p c n) n.chain c.left (λ i. exec stops p made (with_new p c n i)) (exec stops p taken c) (exec stops p full c)
    (λ i e. exec_keeps stops p ok P kept made (with_new p c n i) (λ s j. among s (in_made n made taken full next s j)) (kept.makes n c i (among (Makes n) (here (Makes n) _)) e h))
    (exec_keeps stops p ok P kept taken c (λ s j. among s (in_taken n made taken full next s j)) h) (exec_keeps stops p ok P kept full c (λ s j. among s (in_full n made taken full next s j)) h))
    (λ d. exec_keeps stops p ok P kept next d (λ s j. among s (after_make n made taken full next s j)))

-- a step
left_keeps : (P : State → Type 0) (choices left : List ℕ) (c : Context) (a : Action) (r : StepResult) → P c.state → if_none_left choices left c a ≡ Some r → P r.state
left_keeps P choices [] c a r h e = subst (λ (x : StepResult). P x.state) (same_Some _ _ e) h
left_keeps P choices (i ∷ left) c a r h e = cc

result_keeps : (P : State → Type 0) (choices : List ℕ) (w : Completion) (r : StepResult) → EndsIn P w → step_result choices w ≡ Some r → P r.state
result_keeps P choices (Normal c) r h e = left_keeps P choices c.left c _ r h e
result_keeps P choices (Ended a c) r h e = left_keeps P choices c.left c a r h e
result_keeps P choices NoStep r h e = cc
result_keeps P choices (StoppedAt chain left) r h e = cc

skip_keeps : (P : State → Type 0) (s : State) (choices : List ℕ) (r : StepResult) → P s → skipped s choices ≡ Some r → P r.state
skip_keeps P s [] r h e = subst (λ (x : StepResult). P x.state) (same_Some _ _ e) h
skip_keeps P s (i ∷ choices) r h e = cc

handler_keeps : (stops : Stops) (f : Function) (s : State) (time : ℕ) (fields : Fields) (choices : List ℕ) (handler : Option Block) (ok : Statement → Type 0) (P : State → Type 0) →
    IsKept stops (input f time fields) ok P → ((block : Block) → handler ≡ Some block → (t : Statement) → Contains (statements block) t → ok t) → P (expired_state f time s) → EndsIn P (completes stops f s time fields choices handler)
handler_keeps stops f s time fields choices None ok P kept among h = tt
handler_keeps stops f s time fields choices (Some block) ok P kept among h = exec_keeps stops (input f time fields) ok P kept block (start_context f s time choices) (among block refl) h

fields_keep : (stops : Stops) (f : Function) (s : State) (packet : Packet) (choices : List ℕ) (r : StepResult) (ok : Statement → Type 0) (P : State → Type 0) (o : Option Fields) →
    ((fields : Fields) → IsKept stops (input f packet.time fields) ok P) → ((block : Block) → Contains (blocks f) block → (t : Statement) → Contains (statements block) t → ok t) →
    P s → P (expired_state f packet.time s) → step_of stops f s packet choices o ≡ Some r → P r.state
fields_keep stops f s packet choices r ok P None kept among h x e = skip_keeps P s choices r h e
fields_keep stops f s packet choices r ok P (Some fields) kept among h x e =
    result_keeps P choices (completes stops f s packet.time fields choices (handler_at f (door_of packet.id.port fields))) r
    (handler_keeps stops f s packet.time fields choices (handler_at f (door_of packet.id.port fields)) ok P (kept fields) (λ block at. among block (at_door f (door_of packet.id.port fields) block at)) x) e

pub step_keeps : (stops : Stops) (f : Function) (s : State) (packet : Packet) (choices : List ℕ) (r : StepResult) (ok : Statement → Type 0) (P : State → Type 0) →
    ((fields : Fields) → IsKept stops (input f packet.time fields) ok P) → ((block : Block) → Contains (blocks f) block → (t : Statement) → Contains (statements block) t → ok t) →
    P s → P (expired_state f packet.time s) → step_of stops f s packet choices packet.fields ≡ Some r → P r.state
step_keeps stops f s packet choices r ok P kept among h x e = fields_keep stops f s packet choices r ok P packet.fields kept among h x e
