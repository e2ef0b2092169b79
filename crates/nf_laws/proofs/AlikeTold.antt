-- Where a share doesn't stop, its record and its path are the undivided ones.
use Rattle.std.proofs.Common.{◌≡◌, ℕ, Bool, true, false, nat_lt, List, [], ◌∷◌, map, Option, Some, None, slice_get, refl, ap, ap₂, sym, ◌∙◌, subst, ◌⊎◌, inl, inr, ◌≤◌, ◌&&◌, ◌<◌, arith}
use Rattle.std.proofs.lemmas.Bool.{ltb-true}
use Rattle.nf_base.specs.Doors.{handler_at}
use Rattle.nf_base.specs.Families.{door_of}
use Rattle.nf_base.specs.declared.packet.Packet.{Packet}
use Rattle.nf_base.specs.declared.packet.Fields.{Fields}
use Rattle.nf_base.specs.declared.share.Share.{Share}
use Rattle.nf_base.specs.declared.state.Chain.{Chain}
use Rattle.nf_base.specs.declared.state.State.{State}
use Rattle.nf_base.specs.Text.{FallsOff, Flood, Discard, Forward, Creation, Block, End, Do, Ask, Make, Function}
use Rattle.nf_base.specs.Chains.{chain_at, is_taken, is_full, maps_of}
use Rattle.nf_base.specs.Context.{Context, Input, given}
use Rattle.nf_base.specs.Operations.{Stops, never, NewResult, Made, Taken, Full, Illegal, Stopped, new_result, chosen, with_new, answer, after}
use Rattle.nf_base.specs.Events.{Event, AskedNew, reads_all, did, asked}
use Rattle.nf_base.specs.Paths.{PathStep, Doing, Asking, Making}
use Rattle.nf_base.specs.Course.{Completion, Normal, Ended, NoStep, StoppedAt, and_then, if_hit, if_new, answer_branch, new_branch, exec, events, route}
use Rattle.nf_base.specs.Step.{StepResult, step_result, input, start_context, completes, step_of, record_of, route_of}
use Rattle.nf_base.specs.Shares.{owns, none_vacant, share_stops}
use Rattle.nf_laws.specs.Shares.{is_stopped, SharesGoAlike, SharesStepAlike, WholeSharesNeverStop}
use Rattle.nf_laws.proofs.Consumed.{then_then}
use Rattle.nf_laws.proofs.Legal.{then_normal}
use Rattle.nf_laws.proofs.Alike.{course_alike, tests_alike}

-- a `new` comes to the same, or it stops
new_alike : (stops : Stops) (p : Input) (c : Context) (n : Creation) → (new_result stops p c n ≡ new_result never p c n) ⊎ (new_result stops p c n ≡ Stopped)
new_alike stops p c n =
    let chain = chain_at c.state.chains n.chain in
    tests_alike (is_taken (maps_of p.decls n.chain) (map (given p c) n.labels) chain.slots) (stops n.chain chain) (is_full chain.slots) (chosen chain.slots c.left)

-- what follows is the same, where courses are not of the kind that is left out
hit_same : {A : Type 0} (Q : Completion → Type 0) (o : Option Context) (f : Context → Completion) (x : Completion) (on : Context → Completion) (es es' : Context → A) (fs fs' : A) →
    ((d : Context) → Q (and_then (f d) on) → es d ≡ es' d) → (Q (and_then x on) → fs ≡ fs') → Q (and_then (if_hit o f x) on) → if_hit o es fs ≡ if_hit o es' fs'
hit_same Q (Some d) f x on es es' fs fs' h m q = h d q
hit_same Q None f x on es es' fs fs' h m q = m q

new_same : {A : Type 0} (Q : Completion → Type 0) (to undivided : NewResult) (chain : ℕ) (left : List ℕ) (f : ℕ → Completion) (x y : Completion) (on : Context → Completion) (es es' : ℕ → A) (fs fs' hs hs' u u' v v' : A) →
    (to ≡ undivided) ⊎ (to ≡ Stopped) → (Q (StoppedAt chain left) → ⊥) → (Q NoStep → u ≡ u') → ((i : ℕ) → Q (and_then (f i) on) → es i ≡ es' i) → (Q (and_then x on) → fs ≡ fs') → (Q (and_then y on) → hs ≡ hs') →
    Q (and_then (if_new to f x y NoStep (StoppedAt chain left)) on) → (to ≡ undivided) × (if_new to es fs hs u v ≡ if_new undivided es' fs' hs' u' v')
new_same Q to undivided chain left f x y on es es' fs fs' hs hs' u u' v v' (inr s) stop none m t w q =
    absurd (stop (subst (λ (z : NewResult). Q (and_then (if_new z f x y NoStep (StoppedAt chain left)) on)) s q))
new_same {A} Q to undivided chain left f x y on es es' fs fs' hs hs' u u' v v' (inl e) stop none m t w q =
    (e, same to q ∙ ap (λ (z : NewResult). if_new z es' fs' hs' u' v') e)
  where
    same : (to : NewResult) → Q (and_then (if_new to f x y NoStep (StoppedAt chain left)) on) → if_new to es fs hs u v ≡ if_new to es' fs' hs' u' v'
    same (Made i) q = m i q
    same Taken q = t q
    same Full q = w q
    same Illegal q = none q
    same Stopped q = absurd (stop q)

abbrev GoesOn : Completion → Type 0
GoesOn w = is_stopped w ≡ false

goes_then : (w : Completion) (f g : Context → Completion) → GoesOn (and_then (and_then w f) g) → GoesOn (and_then w (λ d. and_then (f d) g))
goes_then w f g q = sym (ap is_stopped (then_then w f g)) ∙ q

told_alike : (stops : Stops) (p : Input) (b : Block) (c : Context) (g : Context → Completion) (k k' : Context → List Event) → ((d : Context) → GoesOn (g d) → k d ≡ k' d) → GoesOn (and_then (exec stops p b c) g) → events stops p b c k ≡ events never p b c k'
told_alike stops p (End FallsOff) c g k k' h q = h c q
told_alike stops p (End Flood) c g k k' h q = refl
told_alike stops p (End Discard) c g k k' h q = refl
told_alike stops p (End (Forward port)) c g k k' h q = refl
told_alike stops p (Do op next) c g k k' h q = ap (did p c op) (told_alike stops p next (after p c op) g k k' h q)
told_alike stops p (Ask a hit miss next) c g k k' h q =
    let on = λ (d : Context). and_then (exec stops p next d) g in
    let go = λ (d : Context). events stops p next d k in
    let go' = λ (d : Context). events never p next d k' in
    let follows : (d : Context) → GoesOn (on d) → go d ≡ go' d = λ d. told_alike stops p next d g k k' h in
    ap (asked p c a)
    (hit_same GoesOn (answer p c a) (exec stops p hit) (exec stops p miss c) on (λ d. events stops p hit d go) (λ d. events never p hit d go') (events stops p miss c go) (events never p miss c go')
    (λ d. told_alike stops p hit d on go go' follows) (told_alike stops p miss c on go go' follows)
    (goes_then (if_hit (answer p c a) (exec stops p hit) (exec stops p miss c)) (exec stops p next) g q))
told_alike stops p (Make n made taken full next) c g k k' h q =
    let on = λ (d : Context). and_then (exec stops p next d) g in
    let go = λ (d : Context). events stops p next d k in
    let go' = λ (d : Context). events never p next d k' in
    let follows : (d : Context) → GoesOn (on d) → go d ≡ go' d = λ d. told_alike stops p next d g k k' h in
    let same = new_same {A = List Event} GoesOn (new_result stops p c n) (new_result never p c n) n.chain c.left (λ i. exec stops p made (with_new p c n i)) (exec stops p taken c) (exec stops p full c) on
    (λ i. events stops p made (with_new p c n i) go) (λ i. events never p made (with_new p c n i) go') (events stops p taken c go) (events never p taken c go') (events stops p full c go) (events never p full c go') [] [] [] []
    (new_alike stops p c n) (λ x. cc) (λ x. refl) (λ i. told_alike stops p made (with_new p c n i) on go go' follows) (told_alike stops p taken c on go go' follows) (told_alike stops p full c on go go' follows)
    (goes_then (if_new (new_result stops p c n) (λ i. exec stops p made (with_new p c n i)) (exec stops p taken c) (exec stops p full c) NoStep (StoppedAt n.chain c.left)) (exec stops p next) g q) in
    ap (reads_all p c n.labels) (ap₂ (λ to rest. AskedNew n.place n.chain (map (given p c) n.labels) to ∷ rest) same.0 same.1)

-- a course that comes to an end, or falls off
abbrev is_whole : Completion → Bool
is_whole (Normal c) = true
is_whole (Ended a c) = true
is_whole NoStep = false
is_whole (StoppedAt chain left) = false

abbrev IsWhole : Completion → Type 0
IsWhole w = is_whole w ≡ true

whole_then : (w : Completion) (f g : Context → Completion) → IsWhole (and_then (and_then w f) g) → IsWhole (and_then w (λ d. and_then (f d) g))
whole_then w f g q = sym (ap is_whole (then_then w f g)) ∙ q

path_alike : (stops : Stops) (p : Input) (b : Block) (c : Context) (g : Context → Completion) (k k' : Context → List PathStep) → ((d : Context) → IsWhole (g d) → k d ≡ k' d) → IsWhole (and_then (exec stops p b c) g) → route stops p b c k ≡ route never p b c k'
path_alike stops p (End FallsOff) c g k k' h q = h c q
path_alike stops p (End Flood) c g k k' h q = refl
path_alike stops p (End Discard) c g k k' h q = refl
path_alike stops p (End (Forward port)) c g k k' h q = refl
path_alike stops p (Do op next) c g k k' h q = ap (λ path. Doing op ∷ path) (path_alike stops p next (after p c op) g k k' h q)
path_alike stops p (Ask a hit miss next) c g k k' h q =
    let on = λ (d : Context). and_then (exec stops p next d) g in
    let go = λ (d : Context). route stops p next d k in
    let go' = λ (d : Context). route never p next d k' in
    let follows : (d : Context) → IsWhole (on d) → go d ≡ go' d = λ d. path_alike stops p next d g k k' h in
    ap (λ path. Asking a (answer_branch (answer p c a)) ∷ path)
    (hit_same IsWhole (answer p c a) (exec stops p hit) (exec stops p miss c) on (λ d. route stops p hit d go) (λ d. route never p hit d go') (route stops p miss c go) (route never p miss c go')
    (λ d. path_alike stops p hit d on go go' follows) (path_alike stops p miss c on go go' follows)
    (whole_then (if_hit (answer p c a) (exec stops p hit) (exec stops p miss c)) (exec stops p next) g q))
path_alike stops p (Make n made taken full next) c g k k' h q =
    let on = λ (d : Context). and_then (exec stops p next d) g in
    let go = λ (d : Context). route stops p next d k in
    let go' = λ (d : Context). route never p next d k' in
    let follows : (d : Context) → IsWhole (on d) → go d ≡ go' d = λ d. path_alike stops p next d g k k' h in
    let z = route stops p full c go in
    let z' = route never p full c go' in
    let same = new_same {A = List PathStep} IsWhole (new_result stops p c n) (new_result never p c n) n.chain c.left (λ i. exec stops p made (with_new p c n i)) (exec stops p taken c) (exec stops p full c) on
    (λ i. route stops p made (with_new p c n i) go) (λ i. route never p made (with_new p c n i) go') (route stops p taken c go) (route never p taken c go') z z' z z' z z'
    (new_alike stops p c n) (λ x. cc) (λ x. cc) (λ i. path_alike stops p made (with_new p c n i) on go go' follows) (path_alike stops p taken c on go go' follows) (path_alike stops p full c on go go' follows)
    (whole_then (if_new (new_result stops p c n) (λ i. exec stops p made (with_new p c n i)) (exec stops p taken c) (exec stops p full c) NoStep (StoppedAt n.chain c.left)) (exec stops p next) g q) in
    ap₂ (λ to rest. Making n (new_branch to) ∷ rest) same.0 same.1

pub shares_alike : SharesGoAlike
shares_alike stops p b c s = record {
  course = course_alike stops p b c s;
  told = told_alike stops p b c Normal (λ _. []) (λ _. []) (λ d q. refl) (ap is_stopped (then_normal (exec stops p b c)) ∙ s);
}

-- a step
step_whole : (choices : List ℕ) (w : Completion) (r : StepResult) → step_result choices w ≡ Some r → IsWhole w
step_whole choices (Normal c) r e = refl
step_whole choices (Ended a c) r e = refl
step_whole choices NoStep r e = cc
step_whole choices (StoppedAt chain left) r e = cc

whole_goes : (w : Completion) → IsWhole w → GoesOn w
whole_goes (Normal c) e = refl
whole_goes (Ended a c) e = refl
whole_goes NoStep e = cc
whole_goes (StoppedAt chain left) e = cc

at_handler : (stops : Stops) (f : Function) (s : State) (packet : Packet) (fields : Fields) (choices : List ℕ) (r : StepResult) (handler : Option Block) → handler_at f (door_of packet.id.port fields) ≡ handler →
    step_result choices (completes stops f s packet.time fields choices handler) ≡ Some r →
    (step_of never f s packet choices (Some fields) ≡ Some r) × (record_of stops f s packet choices (Some fields) ≡ record_of never f s packet choices (Some fields)) × (route_of stops f s packet choices (Some fields) ≡ route_of never f s packet choices (Some fields))
at_handler stops f s packet fields choices r None at e = cc
at_handler stops f s packet fields choices r (Some block) at e =
    let p = input f packet.time fields in
    let c = start_context f s packet.time choices in
    let whole : IsWhole (exec stops p block c) = step_whole choices (exec stops p block c) r e in
    let same = shares_alike stops p block c (whole_goes (exec stops p block c) whole) in
    let path : route stops p block c (λ _. []) ≡ route never p block c (λ _. []) = path_alike stops p block c Normal (λ _. []) (λ _. []) (λ d q. refl) (ap is_whole (then_normal (exec stops p block c)) ∙ whole) in
    rw at (ap (step_result choices) (sym same.course) ∙ e, same.told, path)

of_fields : (stops : Stops) (f : Function) (s : State) (packet : Packet) (choices : List ℕ) (r : StepResult) (o : Option Fields) → step_of stops f s packet choices o ≡ Some r →
    (step_of never f s packet choices o ≡ Some r) × (record_of stops f s packet choices o ≡ record_of never f s packet choices o) × (route_of stops f s packet choices o ≡ route_of never f s packet choices o)
of_fields stops f s packet choices r None e = (e, refl, refl)
of_fields stops f s packet choices r (Some fields) e = at_handler stops f s packet fields choices r (handler_at f (door_of packet.id.port fields)) refl e

pub steps_alike : SharesStepAlike
steps_alike stops f s packet choices r e = let w = of_fields stops f s packet choices r packet.fields e in record { stepped = w.0; told = w.1; path = w.2 }

-- the whole share
no_stop : (share : Share) → share.of ≤ 1 → (chain : ℕ) (state : Chain) → share_stops share chain state ≡ never chain state
no_stop share le chain state = of (nat_lt 1 share.of) refl
  where
    of : (b : Bool) → nat_lt 1 share.of ≡ b → (b && none_vacant (owns share) state.slots) ≡ false
    of true e = let lt : 1 < share.of = ltb-true 1 share.of e in absurd (omega arith)
    of false e = refl

pub whole_shares : WholeSharesNeverStop
whole_shares share p block c le =
    let same : share_stops share ≡ never = λ i chain state. no_stop share le chain state i in
    ap (λ (stops : Stops). exec stops p block c) same
