-- A share's course is the undivided one, up to where it stops.
use Rattle.std.proofs.Common.{◌≡◌, ℕ, Bool, true, false, List, map, Option, Some, None, IfNone, if◌then◌else◌, refl, ap, sym, ◌∙◌, ◌⊎◌, inl, inr, ◌&&◌, nat_lt}
use Rattle.std.proofs.lemmas.Bool.{true≢false}
use Rattle.nf_base.specs.Doors.{handler_at}
use Rattle.nf_base.specs.Families.{door_of}
use Rattle.nf_base.specs.Text.{Block, End, Do, Ask, Make}
use Rattle.nf_base.specs.Chains.{chain_at, is_taken, is_full, maps_of}
use Rattle.nf_base.specs.Context.{Context, Input, given}
use Rattle.nf_base.specs.Operations.{Stops, never, NewResult, Made, Taken, Full, Illegal, Stopped, new_result, chosen, with_new, answer, after}
use Rattle.nf_base.specs.Course.{Completion, Normal, Ended, NoStep, StoppedAt, and_then, if_hit, if_new, exec}
use Rattle.nf_base.specs.declared.packet.Packet.{Packet}
use Rattle.nf_base.specs.declared.packet.Fields.{Fields}
use Rattle.nf_base.specs.declared.share.Share.{Share}
use Rattle.nf_base.specs.declared.state.Chain.{Chain}
use Rattle.nf_base.specs.declared.state.State.{State}
use Rattle.nf_base.specs.Text.{Function}
use Rattle.nf_base.specs.Shares.{share_stops, none_vacant, owns}
use Rattle.nf_engine.specs.Stops.{halts, full_stops}
use Rattle.nf_engine.proofs.Vacant.{none_is_full, owns_all}
use Rattle.nf_base.specs.Step.{StepResult, step_result, input, start_context, completes, step_of, step_by, step}

-- whether a completion is a stop
abbrev is_stopped : Completion → Bool
is_stopped (Normal c) = false
is_stopped (Ended a c) = false
is_stopped NoStep = false
is_stopped (StoppedAt chain left) = true

-- the same, or a stop
abbrev Alike : Completion → Completion → Type 0
Alike x y = (x ≡ y) ⊎ (is_stopped x ≡ true)

then_alike : (x y : Completion) (f g : Context → Completion) → Alike x y → ((c : Context) → Alike (f c) (g c)) → Alike (and_then x f) (and_then y g)
then_alike (Normal c) y f g (inl e) h = elim (h c) [ inl i ↦ inl (i ∙ ap (λ z. and_then z g) e) | inr s ↦ inr s ]
then_alike (Ended a c) y f g (inl e) h = inl (ap (λ z. and_then z g) e)
then_alike NoStep y f g (inl e) h = inl (ap (λ z. and_then z g) e)
then_alike (StoppedAt chain left) y f g (inl e) h = inr refl
then_alike (Normal c) y f g (inr s) h = cc
then_alike (Ended a c) y f g (inr s) h = cc
then_alike NoStep y f g (inr s) h = cc
then_alike (StoppedAt chain left) y f g (inr s) h = inr refl

hit_alike : (o : Option Context) (f g : Context → Completion) (x y : Completion) → ((c : Context) → Alike (f c) (g c)) → Alike x y → Alike (if_hit o f x) (if_hit o g y)
hit_alike (Some c) f g x y h m = h c
hit_alike None f g x y h m = m

-- a `new` comes to the same, or it stops
pub tests_alike : (a b c : Bool) (to : NewResult) → ((if a then Taken else if b then Stopped else if c then Full else to) ≡ (if a then Taken else if false then Stopped else if c then Full else to)) ⊎ ((if a then Taken else if b then Stopped else if c then Full else to) ≡ Stopped)
tests_alike true b c to = inl refl
tests_alike false true c to = inr refl
tests_alike false false c to = inl refl

came_alike : (to undivided : NewResult) (chain : ℕ) (left : List ℕ) (f g : ℕ → Completion) (x y z w : Completion) → (to ≡ undivided) ⊎ (to ≡ Stopped) → ((i : ℕ) → Alike (f i) (g i)) → Alike x y → Alike z w →
    Alike (if_new to f x z NoStep (StoppedAt chain left)) (if_new undivided g y w NoStep (StoppedAt chain left))
came_alike to undivided chain left f g x y z w (inr s) m t u = inr (rw s refl)
came_alike to undivided chain left f g x y z w (inl e) m t u = rw (← e) (same to)
  where
    same : (to : NewResult) → Alike (if_new to f x z NoStep (StoppedAt chain left)) (if_new to g y w NoStep (StoppedAt chain left))
    same (Made i) = m i
    same Taken = t
    same Full = u
    same Illegal = inl refl
    same Stopped = inr refl

share_alike : (stops : Stops) (p : Input) (b : Block) (c : Context) → Alike (exec stops p b c) (exec never p b c)
share_alike stops p (End e) c = inl refl
share_alike stops p (Do op next) c = share_alike stops p next (after p c op)
share_alike stops p (Ask q hit miss next) c =
    then_alike (if_hit (answer p c q) (exec stops p hit) (exec stops p miss c)) (if_hit (answer p c q) (exec never p hit) (exec never p miss c)) (exec stops p next) (exec never p next)
    (hit_alike (answer p c q) (exec stops p hit) (exec never p hit) (exec stops p miss c) (exec never p miss c) (λ d. share_alike stops p hit d) (share_alike stops p miss c))
    (λ d. share_alike stops p next d)
share_alike stops p (Make n made taken full next) c =
    let chain = chain_at c.state.chains n.chain in
    then_alike (if_new (new_result stops p c n) (λ i. exec stops p made (with_new p c n i)) (exec stops p taken c) (exec stops p full c) NoStep (StoppedAt n.chain c.left))
    (if_new (new_result never p c n) (λ i. exec never p made (with_new p c n i)) (exec never p taken c) (exec never p full c) NoStep (StoppedAt n.chain c.left)) (exec stops p next) (exec never p next)
    (came_alike (new_result stops p c n) (new_result never p c n) n.chain c.left (λ i. exec stops p made (with_new p c n i)) (λ i. exec never p made (with_new p c n i)) (exec stops p taken c) (exec never p taken c) (exec stops p full c) (exec never p full c)
    (tests_alike (is_taken (maps_of p.decls n.chain) (map (given p c) n.labels) chain.slots) (stops n.chain chain) (is_full chain.slots) (chosen chain.slots c.left))
    (λ i. share_alike stops p made (with_new p c n i)) (share_alike stops p taken c) (share_alike stops p full c))
    (λ d. share_alike stops p next d)

no_stop : (choices : List ℕ) (x : Completion) (r : StepResult) → step_result choices x ≡ Some r → is_stopped x ≡ false
no_stop choices (Normal c) r e = refl
no_stop choices (Ended a c) r e = refl
no_stop choices NoStep r e = refl
no_stop choices (StoppedAt chain left) r e = cc

same_result : (choices : List ℕ) (x y : Completion) (r : StepResult) → Alike x y → step_result choices x ≡ Some r → step_result choices y ≡ Some r
same_result choices x y r (inl e) q = ap (step_result choices) (sym e) ∙ q
same_result choices x y r (inr s) q = absurd (true≢false (sym s ∙ no_stop choices x r q))

-- a step that a share has is the undivided one
pub undivided_step : (stops : Stops) (f : Function) (s : State) (packet : Packet) (choices : List ℕ) (r : StepResult) → step_by stops f s packet choices ≡ Some r → step f s packet choices ≡ Some r
undivided_step stops f s packet choices r = of_fields packet.fields
  where
    of_handler : (fields : Fields) (handler : Option Block) → step_result choices (completes stops f s packet.time fields choices handler) ≡ Some r → step_result choices (completes never f s packet.time fields choices handler) ≡ Some r
    of_handler fields None e = e
    of_handler fields (Some block) e = same_result choices (exec stops (input f packet.time fields) block (start_context f s packet.time choices)) (exec never (input f packet.time fields) block (start_context f s packet.time choices)) r (share_alike stops (input f packet.time fields) block (start_context f s packet.time choices)) e

    of_fields : (o : Option Fields) → step_of stops f s packet choices o ≡ Some r → step_of never f s packet choices o ≡ Some r
    of_fields None e = e
    of_fields (Some fields) e = of_handler fields (handler_at f (door_of packet.id.port fields)) e

whole_stops_nowhere : (share : Share) → share.of ≡ 1 → (chain : ℕ) (state : Chain) → share_stops share chain state ≡ never chain state
whole_stops_nowhere share whole chain state = ap (λ n. nat_lt 1 n && none_vacant (owns share) state.slots) whole

-- the whole share stops nowhere
pub whole_step : (share : Share) (f : Function) (s : State) (packet : Packet) (choices : List ℕ) → share.of ≡ 1 → step_by (share_stops share) f s packet choices ≡ step f s packet choices
whole_step share f s packet choices whole =
    let same : share_stops share ≡ never = λ i chain state. whole_stops_nowhere share whole chain state i in
    ap (λ (stops : Stops). step_by stops f s packet choices) same

-- where the whole share is to stop, each `new` of a full chain does
strict_same : (share : Share) → share.of ≡ 1 → (chain : ℕ) (state : Chain) → halts true share chain state ≡ full_stops chain state
strict_same share whole chain state = none_is_full (owns share) state.slots (owns_all share whole)

pub strict_whole : (share : Share) → share.of ≡ 1 → halts true share ≡ full_stops
strict_whole share whole = λ i chain state. strict_same share whole chain state i

-- what holds of no answer
pub none_weaker : {A : Type 0} (o : Option A) (P Q : Type 0) → (P → Q) → IfNone o P → IfNone o Q
none_weaker (Some a) P Q h p = tt
none_weaker None P Q h p = h p
