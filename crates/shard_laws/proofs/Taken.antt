-- Where all choices are a queue's own, so are the entries that are made.
use Rattle.std.proofs.Common.{◌≡◌, ℕ, List, [], ◌∷◌, drop, map, Option, Some, None, sym, subst, ◌∙◌, refl}
use Rattle.nf_base.specs.Doors.{handler_at}
use Rattle.nf_base.specs.Families.{door_of}
use Rattle.nf_base.specs.declared.packet.Packet.{Packet}
use Rattle.nf_base.specs.declared.packet.Fields.{Fields}
use Rattle.nf_base.specs.declared.state.State.{State}
use Rattle.nf_base.specs.Text.{Block, End, FallsOff, Flood, Discard, Forward, Do, Ask, Make, Function}
use Rattle.nf_base.specs.Context.{Context, Input, given}
use Rattle.nf_base.specs.Operations.{Stops, NewResult, Made, Taken, Full, Illegal, Stopped, new_result, with_new, answer, after}
use Rattle.nf_base.specs.Events.{Event, AskedNew}
use Rattle.nf_base.specs.Course.{if_hit, if_new, events}
use Rattle.nf_base.specs.Record.{NewEntry}
use Rattle.nf_base.specs.Runs.{Handling}
use Rattle.nf_base.specs.Step.{input, start_context, records, record_of}
use Rattle.nf_base.specs.Text as text
use Rattle.nf_laws.proofs.Plain.{plain_reads, plain_all, plain_asked, plain_did}
use Rattle.nf_laws.proofs.Consumed.{after_left, answer_left, made_next}
use Rattle.nf_laws.proofs.Legal.{taken_head}
use Rattle.shard_laws.specs.Homes.{AllOwn, entries_made, MadeOwn}
use Rattle.shard_laws.specs.Queues.{TakeOwn, MakeOwn}
use Rattle.shard_laws.proofs.Making.{entries_plain, question_makes_none}

abbrev pub Mine : (ℕ → ℕ → ℕ) → ℕ → List Event → Type 0
Mine owner w es = MadeOwn owner w (entries_made es)

hit_own : (owner : ℕ → ℕ → ℕ) (w : ℕ) (o : Option Context) (hits : Context → List Event) (misses : List Event) → ((d : Context) → o ≡ Some d → Mine owner w (hits d)) → Mine owner w misses → Mine owner w (if_hit o hits misses)
hit_own owner w (Some d) hits misses h m = h d refl
hit_own owner w None hits misses h m = m

new_own : (owner : ℕ → ℕ → ℕ) (w place chain : ℕ) (labels : List ℕ) (to : NewResult) (mades : ℕ → List Event) (takens fulls : List Event) → ((i : ℕ) → to ≡ Made i → (owner chain i ≡ w) × Mine owner w (mades i)) → Mine owner w takens → Mine owner w fulls → Mine owner w (AskedNew place chain labels to ∷ if_new to mades takens fulls [] [])
new_own owner w place chain labels (Made i) mades takens fulls m t u = m i refl
new_own owner w place chain labels Taken mades takens fulls m t u = t
new_own owner w place chain labels Full mades takens fulls m t u = u
new_own owner w place chain labels Illegal mades takens fulls m t u = tt
new_own owner w place chain labels Stopped mades takens fulls m t u = tt

own_left : (owner : ℕ → ℕ → ℕ) (w : ℕ) (left other : List ℕ) → left ≡ other → AllOwn owner w other → AllOwn owner w left
own_left owner w left other e a = subst (λ (l : List ℕ). AllOwn owner w l) (sym e) a

pub course_own : (owner : ℕ → ℕ → ℕ) (w : ℕ) (stops : Stops) (p : Input) (b : Block) (c : Context) (k : Context → List Event) → AllOwn owner w c.left → ((d : Context) → AllOwn owner w d.left → Mine owner w (k d)) → Mine owner w (events stops p b c k)
course_own owner w stops p (End FallsOff) c k a f = f c a
course_own owner w stops p (End text.Flood) c k a f = tt
course_own owner w stops p (End Discard) c k a f = tt
course_own owner w stops p (End (Forward port)) c k a f = subst (λ (xs : List NewEntry). MadeOwn owner w xs) (sym (plain_reads entries_made entries_plain.reads_ p c port [])) tt
course_own owner w stops p (Do op next) c k a f = subst (λ (xs : List NewEntry). MadeOwn owner w xs) (sym (plain_did entries_made entries_plain p c op _))
    (course_own owner w stops p next (after p c op) k (own_left owner w _ _ (after_left p c op) a) f)
course_own owner w stops p (Ask q hit miss next) c k a f =
    let go = λ (d : Context). events stops p next d k in
    let follows : (d : Context) → AllOwn owner w d.left → Mine owner w (go d) = λ d b. course_own owner w stops p next d k b f in
    let es = if_hit (answer p c q) (λ d. events stops p hit d go) (events stops p miss c go) in
    subst (λ (xs : List NewEntry). MadeOwn owner w xs) (sym (plain_asked entries_made entries_plain.reads_ p c q es ∙ question_makes_none p c q es))
    (hit_own owner w (answer p c q) (λ d. events stops p hit d go) (events stops p miss c go)
    (λ d e. course_own owner w stops p hit d go (own_left owner w _ _ (answer_left p c d q e) a) follows) (course_own owner w stops p miss c go a follows))
course_own owner w stops p (Make n made taken full next) c k a f =
    let go = λ (d : Context). events stops p next d k in
    let follows : (d : Context) → AllOwn owner w d.left → Mine owner w (go d) = λ d b. course_own owner w stops p next d k b f in
    subst (λ (xs : List NewEntry). MadeOwn owner w xs) (sym (plain_all entries_made entries_plain.reads_ p c n.labels
    (AskedNew n.place n.chain (map (given p c) n.labels) (new_result stops p c n) ∷ if_new (new_result stops p c n) (λ i. events stops p made (with_new p c n i) go) (events stops p taken c go) (events stops p full c go) [] [])))
    (new_own owner w n.place n.chain (map (given p c) n.labels) (new_result stops p c n) (λ i. events stops p made (with_new p c n i) go) (events stops p taken c go) (events stops p full c go)
    (λ i e.
    let own : AllOwn owner w (i ∷ drop 1 c.left) = own_left owner w _ _ (sym (taken_head i c.left (drop 1 c.left) (made_next stops p c n i e))) a in
    (own.0 n.chain, course_own owner w stops p made (with_new p c n i) go own.1 follows)) (course_own owner w stops p taken c go a follows) (course_own owner w stops p full c go a follows))

pub block_own : (owner : ℕ → ℕ → ℕ) (w : ℕ) (stops : Stops) (f : Function) (s : State) (time : ℕ) (fields : Fields) (choices : List ℕ) (o : Option Block) → AllOwn owner w choices → Mine owner w (records stops f s time fields choices o)
block_own owner w stops f s time fields choices None a = tt
block_own owner w stops f s time fields choices (Some block) a = course_own owner w stops (input f time fields) block (start_context f s time choices) (λ d. []) a (λ d b. tt)

pub taken_own : (owner : ℕ → ℕ → ℕ) (w : ℕ) (stops : Stops) (f : Function) (s : State) (packet : Packet) (choices : List ℕ) (o : Option Fields) → AllOwn owner w choices → Mine owner w (record_of stops f s packet choices o)
taken_own owner w stops f s packet choices None a = tt
taken_own owner w stops f s packet choices (Some fields) a = block_own owner w stops f s packet.time fields choices (handler_at f (door_of packet.id.port fields)) a

pub takes_make : (owner : ℕ → ℕ → ℕ) (queue : Packet → ℕ) (stops : Stops) (f : Function) (hs : List Handling) (s : State) → TakeOwn owner queue hs → MakeOwn owner queue stops f s hs
takes_make owner queue stops f [] s own = tt
takes_make owner queue stops f (h ∷ hs) s own = (taken_own owner (queue h.packet) stops f s h.packet h.choices h.packet.fields own.0, λ next e. takes_make owner queue stops f hs next.state own.1)
