-- How a block goes, the record of it, and the path that it takes: three recursions over the text.
use Rattle.std.specs.Prelude.{ℕ, nat_lt, List, [], ◌∷◌, Option, Some, None, if◌then◌else◌}
use Rattle.nf_base.specs.Text.{Ending, FallsOff, Forward, Discard, Block, End, Do, Ask, Make}
use Rattle.nf_base.specs.Text as text
use Rattle.nf_base.specs.declared.done.Action.{Action}
use Rattle.nf_base.specs.declared.done.Action.TheVariants.{Drop, Flood, To}
use Rattle.nf_base.specs.Context.{Context, Input, value}
use Rattle.nf_base.specs.Operations.{Stops, NewResult, Made, Taken, Full, Illegal, Stopped, new_result, with_new, answer, after}
use Rattle.nf_base.specs.Events.{Event, did, asked, asked_new, ended_by}
use Rattle.nf_base.specs.Paths.{Branch, Hits, Misses, Makes, IsTaken, IsFull, PathStep, Doing, Asking, Making, Closing}

-- How a block completes: it falls off its end, or ends with an action; a choice is not legal; or it
-- stops at a `new` of a chain, with these choices left.
pub data Completion : Type 0 where
  Normal : Context → Completion
  Ended : Action → Context → Completion
  NoStep : Completion
  StoppedAt : (chain : ℕ) (left : List ℕ) → Completion

-- what follows, where a block falls off
abbrev pub and_then : Completion → (Context → Completion) → Completion
and_then (Normal c) go = go c
and_then (Ended a c) go = Ended a c
and_then NoStep go = NoStep
and_then (StoppedAt chain left) go = StoppedAt chain left

-- a packet goes out at a port that there is
abbrev pub sent : ℕ → ℕ → Action
sent ports port = if nat_lt port ports then To port else Drop

-- the end of a block
abbrev pub ended : Input → Context → Ending → Completion
ended p c FallsOff = Normal c
ended p c text.Flood = Ended Flood c
ended p c Discard = Ended Drop c
ended p c (Forward port) = Ended (sent p.ports (value p c port)) c

-- by whether a question hits
abbrev pub if_hit : {A : Type 0} → Option Context → (Context → A) → A → A
if_hit (Some c) hit miss = hit c
if_hit None hit miss = miss

-- by what a `new` comes to
abbrev pub if_new : {A : Type 0} → NewResult → (ℕ → A) → (taken full illegal stopped : A) → A
if_new (Made i) made taken full illegal stopped = made i
if_new Taken made taken full illegal stopped = taken
if_new Full made taken full illegal stopped = full
if_new Illegal made taken full illegal stopped = illegal
if_new Stopped made taken full illegal stopped = stopped

-- how a block goes from a context
abbrev pub exec : Stops → Input → Block → Context → Completion
exec stops p (End e) c = ended p c e
exec stops p (Do op next) c = exec stops p next (after p c op)
exec stops p (Ask q hit miss next) c =
    and_then (if_hit (answer p c q) (exec stops p hit) (exec stops p miss c)) (exec stops p next)
exec stops p (Make n made taken full next) c =
    and_then
    (if_new (new_result stops p c n)
    (λ i. exec stops p made (with_new p c n i))
    (exec stops p taken c)
    (exec stops p full c)
    NoStep
    (StoppedAt n.chain c.left))
    (exec stops p next)

-- The operations of a block, up to an illegal choice or a stop, and then those of what follows where
-- it falls off.
abbrev pub events : Stops → Input → Block → Context → (Context → List Event) → List Event
events stops p (End e) c k = ended_by p c e k
events stops p (Do op next) c k = did p c op (events stops p next (after p c op) k)
events stops p (Ask q hit miss next) c k =
    let go = λ (d : Context). events stops p next d k in
    asked p c q (if_hit (answer p c q) (λ d. events stops p hit d go) (events stops p miss c go))
events stops p (Make n made taken full next) c k =
    let go = λ (d : Context). events stops p next d k in
    asked_new stops p c n
    (if_new (new_result stops p c n)
    (λ i. events stops p made (with_new p c n i) go)
    (events stops p taken c go)
    (events stops p full c go)
    []
    [])

-- how a question branches
abbrev pub answer_branch : Option Context → Branch
answer_branch None = Misses
answer_branch (Some c) = Hits

-- how a `new` branches; a path goes on behind an illegal choice and a stop as if it were full
abbrev pub new_branch : NewResult → Branch
new_branch (Made i) = Makes
new_branch Taken = IsTaken
new_branch Full = IsFull
new_branch Illegal = IsFull
new_branch Stopped = IsFull

-- the end of a block on a path, and what follows where it falls off
abbrev pub ending_route : Context → Ending → (Context → List PathStep) → List PathStep
ending_route c FallsOff k = k c
ending_route c text.Flood k = Closing text.Flood ∷ []
ending_route c Discard k = Closing Discard ∷ []
ending_route c (Forward port) k = Closing (Forward port) ∷ []

-- the path that a block takes from a context, always a whole one
abbrev pub route : Stops → Input → Block → Context → (Context → List PathStep) → List PathStep
route stops p (End e) c k = ending_route c e k
route stops p (Do op next) c k = Doing op ∷ route stops p next (after p c op) k
route stops p (Ask q hit miss next) c k =
    let go = λ (d : Context). route stops p next d k in
    Asking q (answer_branch (answer p c q))
    ∷ if_hit (answer p c q) (λ d. route stops p hit d go) (route stops p miss c go)
route stops p (Make n made taken full next) c k =
    let go = λ (d : Context). route stops p next d k in
    let on_full = route stops p full c go in
    Making n (new_branch (new_result stops p c n))
    ∷ if_new (new_result stops p c n)
    (λ i. route stops p made (with_new p c n i) go)
    (route stops p taken c go)
    on_full
    on_full
    on_full
