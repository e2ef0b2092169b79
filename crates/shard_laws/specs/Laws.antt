-- What the laws say.
use Rattle.std.specs.Prelude.{◌≡◌, ◌<◌, ◌≤◌, ℕ, true, false, List, Some}
use Rattle.nf_base.specs.declared.decl.ChainDecl.{ChainDecl}
use Rattle.nf_base.specs.declared.decl.ObjectId.TheVariants as object
use Rattle.nf_base.specs.declared.packet.Packet.{Packet}
use Rattle.nf_base.specs.declared.state.State.{State}
use Rattle.nf_base.specs.Text.{Function, Expression, Given, Operation, Store, Question, Creation}
use Rattle.nf_base.specs.Chains.{chain_at}
use Rattle.nf_base.specs.Context.{Context}
use Rattle.nf_base.specs.Operations.{Stops, answer, after, Made, new_result}
use Rattle.nf_base.specs.Events.{Event, did, asked, asked_new}
use Rattle.nf_base.specs.Record.{answers_full}
use Rattle.nf_base.specs.Locations.{Location, Numbers, no_numbers, locations}
use Rattle.nf_base.specs.Step.{StepResult, step, recorded, opening}
use Rattle.nf_base.specs.Runs.{Handling, RunResult, run_by, run, numbers_of}
use Rattle.shard_laws.specs.Homes.{Homes, AllTold, entries_made, MadeOwn, AllAt, seen, KnowsWritten}
use Rattle.shard_laws.specs.Agreement.{Scene, Agree, Goes, AnswersAlike, NewsAlike}
use Rattle.shard_laws.specs.Queues.{time_after, last_time, NeverFall, of_queue, answers_of, TakeOwn, Throughout, MeetsNoFull, StayHome, queue_by, MeetAtOneQueue}
use Rattle.shard_laws.specs.Parts.{Whole, Part, at_time, HaltsOwn, opened_of, OneOn}
use Rattle.shard_laws.specs.Unions.{IsUnion}

-- what a queue sees of a state is its part
abbrev pub SeenIsPart : Type 0
SeenIsPart =
    (h : Homes) (opened : ℕ → ℕ → ℕ) (decls : List ChainDecl) (time w : ℕ) (ns : Numbers)
    (s : State) →
    Whole h opened decls time ns s → Part h opened decls time w s (seen h opened w s)

-- a part that nothing happens to stays the part of the whole state as it expires
abbrev pub PartsAge : Type 0
PartsAge =
    (h : Homes) (opened : ℕ → ℕ → ℕ) (decls : List ChainDecl) (time after w : ℕ) (ns : Numbers)
    (s part : State) →
    Whole h opened decls time ns s → Part h opened decls time w s part → time ≤ after →
    Part h opened decls after w (at_time after decls s) part

-- where an operation stores, the array is taken for written
abbrev pub StoresAreTold : Scene → Operation → Type 0
StoresAreTold s op =
    (place array : ℕ) (at : Expression) (g : Given) → op ≡ Store place array at g →
    s.homes.written (object.Array array) ≡ true

-- an operation does to a part what it does to the whole state, where what it touches is at home
abbrev pub OperationsAgree : Type 0
OperationsAgree =
    (s : Scene) (z n : Numbers) (c d : Context) (op : Operation) (rest : List Event) →
    StoresAreTold s op → Agree s n c d → Goes s z n (did s.packet c op rest) →
    Agree s n (after s.packet c op) (after s.packet d op)

-- a question is answered alike there
abbrev pub QuestionsAgree : Type 0
QuestionsAgree =
    (s : Scene) (z n : Numbers) (c d : Context) (q : Question) (rest : List Event) →
    Agree s n c d → Goes s z n (asked s.packet c q rest) →
    AnswersAlike s n (answer s.packet c q) (answer s.packet d q)

-- and so is a `new`
abbrev pub CreationsAgree : Type 0
CreationsAgree =
    (s : Scene) (z n : Numbers) (c d : Context) (new : Creation) (rest : List Event) →
    s.homes.written (object.Chain new.chain) ≡ true → Agree s n c d →
    Goes s z n (asked_new s.over s.packet c new rest) →
    (s.by_part ≡ true → (i : ℕ) → new_result s.stops s.packet d new ≡ Made i →
    s.homes.owner new.chain i ≡ s.queue) →
    NewsAlike s n new c d (new_result s.over s.packet c new) (new_result s.stops s.packet d new)

-- one packet's step on the whole state, beside the part of a queue
abbrev pub PacketsStepAlike : Type 0
PacketsStepAlike =
    (h : Homes) (opened : ℕ → ℕ → ℕ) (stops : Stops) (f : Function) (time b w : ℕ) (ns : Numbers)
    (s part : State) (packet : Packet) (choices : List ℕ) (r : StepResult) →
    KnowsWritten h f → HaltsOwn h.owner w stops → Whole h opened f.chains time ns s →
    Part h opened f.chains time w s part → time ≤ time_after time packet →
    AllAt h b (locations f.chains ns (recorded f s packet choices)) →
    AllTold h ns (recorded f s packet choices) →
    MadeOwn h.owner (h.at b) (entries_made (recorded f s packet choices)) →
    answers_full (recorded f s packet choices) ≡ false → step f s packet choices ≡ Some r →
    OneOn h opened stops f time (h.at b) w ns s part packet choices packet.fields r

-- The run over a queue's packets has a meaning and gives each its answer, and its last state is the
-- queue's part of the whole one at the last time.
pub record QueueRuns (h : Homes) (stops : Stops) (queue : Packet → ℕ) (f : Function)
    (hs : List Handling) (r : RunResult) (w : ℕ) : Type 0 where
  pub ran : RunResult
  pub is : run_by stops f (opening f) (of_queue queue w hs) ≡ Some ran
  pub answers : ran.answers ≡ answers_of queue w hs r.answers
  pub part : Part h (opened_of f) f.chains (last_time 0 hs) w r.state ran.state

-- so each queue's run has, also one that stops where no index that the queue owns is vacant, where
-- each packet of a run touches what is at home at its queue, takes indices that its queue owns and
-- meets no full chain
abbrev pub QueuesRun : Type 0
QueuesRun =
    (h : Homes) (bucket : Packet → ℕ) (f : Function) (hs : List Handling) (r : RunResult) →
    KnowsWritten h f → NeverFall 0 hs → StayHome h bucket f (opening f) no_numbers hs →
    TakeOwn h.owner (queue_by h bucket) hs → Throughout (MeetsNoFull f) f (opening f) hs →
    run f (opening f) hs ≡ Some r →
    (w : ℕ) (stops : Stops) → HaltsOwn h.owner w stops →
    QueueRuns h stops (queue_by h bucket) f hs r w

-- of each chain, one of the states 0 to below n has the greatest stamp
abbrev pub HasTop : ℕ → (ℕ → State) → State → Type 0
HasTop n parts s = (k : ℕ) →
    (w : ℕ) × (w < n) × ((chain_at (parts w).chains k).greatest ≡ (chain_at s.chains k).greatest)

-- the run of all packets, beside the runs of each queue's
pub record Undivided (h : Homes) (opened : ℕ → ℕ → ℕ) (queue : Packet → ℕ) (f : Function)
    (time : ℕ) (s : State) (parts : ℕ → State) (ns : Numbers) (hs : List Handling)
    (runs : ℕ → RunResult) : Type 0 where
  pub ran : RunResult
  pub is : run f s hs ≡ Some ran
  pub whole : Whole h opened f.chains (last_time time hs) (numbers_of f s ns hs) ran.state
  pub answers : (v : ℕ) → (runs v).answers ≡ answers_of queue v hs ran.answers
  pub each : (v : ℕ) → Part h opened f.chains (last_time time hs) v ran.state (runs v).state
  pub tops : (n : ℕ) → ((p : Packet) → queue p < n) → HasTop n parts s →
      HasTop n (λ v. (runs v).state) ran.state

-- The other way: where the run over each queue's packets has a meaning, also one that stops where
-- no index that the queue owns is vacant, so has the run of all of them, with the queues' answers,
-- and the queues' last states are its parts.
abbrev pub UndividedRuns : Type 0
UndividedRuns =
    (h : Homes) (stops : ℕ → Stops) (bucket : Packet → ℕ) (f : Function) (hs : List Handling)
    (runs : ℕ → RunResult) →
    KnowsWritten h f → ((v : ℕ) → HaltsOwn h.owner v (stops v)) → NeverFall 0 hs →
    StayHome h bucket f (opening f) no_numbers hs → TakeOwn h.owner (queue_by h bucket) hs →
    ((v : ℕ) → run_by (stops v) f (opening f) (of_queue (queue_by h bucket) v hs) ≡ Some (runs v)) →
    Undivided h (opened_of f) (queue_by h bucket) f 0 (opening f) (λ v. opening f) no_numbers hs runs

-- The runs of each queue's packets have a meaning and give each its answer, and the last states of
-- the queues 0 to below n make up the last state of all.
pub record Composes (owner : ℕ → ℕ → ℕ) (queue : Packet → ℕ) (f : Function) (n : ℕ)
    (hs : List Handling) (r : RunResult) : Type 0 where
  pub runs : ℕ → RunResult
  pub are_runs : (w : ℕ) → run f (opening f) (of_queue queue w hs) ≡ Some (runs w)
  pub answers : (w : ℕ) → (runs w).answers ≡ answers_of queue w hs r.answers
  pub union : IsUnion owner f (last_time 0 hs) n (λ w. (runs w).state) r.state

-- The commutation law: so a run composes, where each packet touches what is at home at its queue,
-- takes indices that its queue owns and meets no full chain.
abbrev pub QueuesCompose : Type 0
QueuesCompose =
    (h : Homes) (bucket : Packet → ℕ) (f : Function) (n : ℕ) (hs : List Handling) (r : RunResult) →
    KnowsWritten h f → 0 < n → ((x : Location) → h.at (h.home x) < n) →
    ((p : Packet) → h.at (bucket p) < n) → NeverFall 0 hs →
    StayHome h bucket f (opening f) no_numbers hs → TakeOwn h.owner (queue_by h bucket) hs →
    Throughout (MeetsNoFull f) f (opening f) hs → run f (opening f) hs ≡ Some r →
    Composes h.owner (queue_by h bucket) f n hs r

-- the same from the packets that meet: where any two of them have one queue
abbrev pub MeetingQueuesCompose : Type 0
MeetingQueuesCompose =
    (owner : ℕ → ℕ → ℕ) (queue : Packet → ℕ) (f : Function) (n : ℕ) (hs : List Handling)
    (r : RunResult) →
    0 < n → ((p : Packet) → queue p < n) → MeetAtOneQueue queue f hs → NeverFall 0 hs →
    TakeOwn owner queue hs → Throughout (MeetsNoFull f) f (opening f) hs →
    run f (opening f) hs ≡ Some r →
    Composes owner queue f n hs r

-- all packets have a run, with the answers of the queues' runs, and its last state is the union of
-- theirs
pub record Recomposes (owner : ℕ → ℕ → ℕ) (queue : Packet → ℕ) (f : Function) (n : ℕ)
    (hs : List Handling) (runs : ℕ → RunResult) : Type 0 where
  pub ran : RunResult
  pub is : run f (opening f) hs ≡ Some ran
  pub answers : (w : ℕ) → (runs w).answers ≡ answers_of queue w hs ran.answers
  pub union : IsUnion owner f (last_time 0 hs) n (λ w. (runs w).state) ran.state

-- the other way, from the packets that meet, up to and with the first one that has no step
abbrev pub MeetingUndividedRuns : Type 0
MeetingUndividedRuns =
    (owner : ℕ → ℕ → ℕ) (stops : ℕ → Stops) (queue : Packet → ℕ) (f : Function) (n : ℕ)
    (hs : List Handling) (runs : ℕ → RunResult) →
    0 < n → ((p : Packet) → queue p < n) → ((w : ℕ) → HaltsOwn owner w (stops w)) →
    MeetAtOneQueue queue f hs → NeverFall 0 hs → TakeOwn owner queue hs →
    ((w : ℕ) → run_by (stops w) f (opening f) (of_queue queue w hs) ≡ Some (runs w)) →
    Recomposes owner queue f n hs runs

-- a union is one: two states that are it are equal
abbrev pub UnionsAreOne : Type 0
UnionsAreOne =
    (owner : ℕ → ℕ → ℕ) (f : Function) (time n : ℕ) (parts : ℕ → State) (s t : State) →
    IsUnion owner f time n parts s → IsUnion owner f time n parts t → s ≡ t
