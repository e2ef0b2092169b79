-- How a handler's context on a queue's part of a state agrees with the one on the whole state.
use Rattle.std.specs.Prelude.{◌≡◌, ◌≢◌, ◌≤◌, ◌⊎◌, ℕ, Bool, true, false, List, [], ◌∷◌, length, Option, Some, None, slice_get}
use Rattle.nf_base.specs.declared.decl.ObjectId.TheVariants as object
use Rattle.nf_base.specs.declared.state.Entry.{Entry}
use Rattle.nf_base.specs.declared.state.Chain.{Chain}
use Rattle.nf_base.specs.declared.state.State.{State}
use Rattle.nf_base.specs.Chains.{chain_at, array_at, is_full}
use Rattle.nf_base.specs.Context.{Context, Input, EntryRef, Var}
use Rattle.nf_base.specs.Text.{Creation}
use Rattle.nf_base.specs.Operations.{Stops, NewResult, Made, Taken, Full, Illegal, Stopped, with_new}
use Rattle.nf_base.specs.Course.{Completion, Normal, Ended, NoStep, StoppedAt}
use Rattle.nf_base.specs.Events.{Event}
use Rattle.nf_base.specs.Record.{made_of, result_of_new, is_refusal}
use Rattle.nf_base.specs.Locations.{EntryNo, Numbers, one_more, locations_of, numbers_after}
use Rattle.nf_base.specs.Shares.{mix, none_vacant}
use Rattle.shard_laws.specs.Homes.{Homes, queue_home, TellsMade, TellsStored, made_in_front, entries_made, MadeOwn, AllAt, owned, unseen, cell_owned, Holds}

-- One packet, with the states before it, the whole one and its queue's part. `over` stops the
-- course on the whole state, `stops` the one on the part. Where `strict`, no `new` answers full.
-- Where `tight`, both stop at the same statements, and before a chain is full. Where `by_part`, the
-- entries that the part makes are known to be at the queue's own indices, and else those that the
-- whole state makes.
pub record Scene : Type 0 where
  pub homes : Homes
  pub strict : Bool
  pub tight : Bool
  pub by_part : Bool
  pub over : Stops
  pub stops : Stops
  pub opened : ℕ → ℕ → ℕ
  pub bucket : ℕ
  pub queue : ℕ
  pub packet : Input
  pub whole : State
  pub part : State
  pub is : homes.at bucket ≡ queue
  pub firm : by_part ≡ false → tight ≡ false → strict ≡ true
  pub lax : by_part ≡ true → strict ≡ false
  pub halts : (k : ℕ) (chain : Chain) → stops k chain ≡ true →
      none_vacant (owned homes.owner queue k) chain.slots ≡ true
  pub follows : (k : ℕ) (now seen : Chain) →
      seen.slots ≡ mix (owned homes.owner queue k) unseen now.slots → over k now ≡ true →
      stops k seen ≡ true
  pub leads : tight ≡ true → (k : ℕ) (now seen : Chain) →
      seen.slots ≡ mix (owned homes.owner queue k) unseen now.slots → stops k seen ≡ true →
      over k now ≡ true
  pub roomy : tight ≡ true → (k : ℕ) (now : Chain) → over k now ≡ false → is_full now.slots ≡ false

-- the indices of a chain: the part's are those that the queue sees, and what other queues see is as
-- it was before the packet
pub record SlotsAgree (s : Scene) (n : Numbers) (k : ℕ) (now part : List (Option Entry))
    : Type 0 where
  pub here : part ≡ mix (owned s.homes.owner s.queue k) unseen now
  pub beside : (v : ℕ) → v ≢ s.queue →
      mix (owned s.homes.owner v k) unseen now
      ≡ mix (owned s.homes.owner v k) unseen (chain_at s.whole.chains k).slots
  pub each : (i : ℕ) (e : Entry) → slice_get now i ≡ Some (Some e) →
      Holds s.homes s.packet.decls s.packet.time n k i e

-- the greatest stamps of a chain: both as before the packet, or both its time
pub record StampsAgree (s : Scene) (k now part : ℕ) : Type 0 where
  pub low : now ≤ s.packet.time
  pub low_part : part ≤ s.packet.time
  pub top :
      ((now ≡ (chain_at s.whole.chains k).greatest)
      × (part ≡ (chain_at s.part.chains k).greatest))
      ⊎ ((now ≡ s.packet.time) × (part ≡ s.packet.time))

-- a chain
pub record ChainAgrees (s : Scene) (n : Numbers) (k : ℕ) (now part : Chain) : Type 0 where
  pub slots : SlotsAgree s n k now.slots part.slots
  pub stamps : StampsAgree s k now.greatest part.greatest

-- the cells of an array; one that is not written holds the opening values, and so does a cell that
-- was given none
pub record CellsAgree (s : Scene) (a : ℕ) (now part : List ℕ) : Type 0 where
  pub here : part ≡ mix (cell_owned (queue_home s.homes) s.queue a) (s.opened a) now
  pub beside : (v : ℕ) → v ≢ s.queue →
      mix (cell_owned (queue_home s.homes) v a) (s.opened a) now
      ≡ mix (cell_owned (queue_home s.homes) v a) (s.opened a) (array_at s.whole.arrays a)
  pub idle : s.homes.written (object.Array a) ≡ false → (i v : ℕ) → slice_get now i ≡ Some v →
      s.opened a i ≡ v
  pub stays : (i v : ℕ) → s.homes.stored a i ≡ false → slice_get now i ≡ Some v →
      s.opened a i ≡ v

-- all chains
pub record ChainsAgree (s : Scene) (n : Numbers) (now part : List Chain) : Type 0 where
  pub long : length now ≡ length s.whole.chains
  pub long_part : length part ≡ length s.whole.chains
  pub each : (k : ℕ) → ChainAgrees s n k (chain_at now k) (chain_at part k)

-- all arrays
pub record ArraysAgree (s : Scene) (now part : List (List ℕ)) : Type 0 where
  pub long : length now ≡ length s.whole.arrays
  pub long_part : length part ≡ length s.whole.arrays
  pub each : (a : ℕ) → CellsAgree s a (array_at now a) (array_at part a)

-- the variables: the same, each on an entry whose index the queue owns
pub record VarsAgree (s : Scene) (vars part : List Var) : Type 0 where
  pub same : part ≡ vars
  pub bound : (k : ℕ) (at : EntryRef) → slice_get vars k ≡ Some (Some at) →
      s.homes.owner at.chain at.index ≡ s.queue

-- the choices that are left: the same
pub record LeftAgree (s : Scene) (left part : List ℕ) : Type 0 where
  pub same : part ≡ left

-- a whole context
pub record Agree (s : Scene) (n : Numbers) (c d : Context) : Type 0 where
  pub chains : ChainsAgree s n c.state.chains d.state.chains
  pub arrays : ArraysAgree s c.state.arrays d.state.arrays
  pub vars : VarsAgree s c.vars d.vars
  pub edits : d.edits ≡ c.edits
  pub left : LeftAgree s c.left d.left

-- what is asked of an event: its locations are at home here, it is no `new` that answers full, it
-- tells what it makes and stores to, and an entry that it makes is the queue's own
pub record IsGood (s : Scene) (n : Numbers) (e : Event) : Type 0 where
  pub at_home : AllAt s.homes s.bucket (locations_of s.packet.decls n e)
  pub granted : s.strict ≡ true → is_refusal (result_of_new e) ≡ false
  pub told : TellsMade s.homes n (made_of e) × TellsStored s.homes e
  pub own : s.by_part ≡ false → MadeOwn s.homes.owner s.queue (made_in_front (made_of e) [])

-- the same of each event from these numbers on, up to the last numbers
abbrev pub Goes : Scene → Numbers → Numbers → List Event → Type 0
Goes s z n [] = n ≡ z
Goes s z n (e ∷ es) = IsGood s n e × Goes s z (numbers_after n e) es

-- what is asked of the part's events: the entries that they make are the queue's own
abbrev pub OwnPart : Scene → List Event → Type 0
OwnPart s es = s.by_part ≡ true → MadeOwn s.homes.owner s.queue (entries_made es)

-- how a question's answers are alike: a context in which it hits, on both sides, or none
abbrev pub AnswersAlike : Scene → Numbers → Option Context → Option Context → Type 0
AnswersAlike s n (Some c) (Some d) = Agree s n c d
AnswersAlike s n None None = Unit {0}
AnswersAlike s n o q = ⊥

-- What a `new` comes to, on the whole state and on the part: an entry is made at the same index.
-- Where the whole chain is full or a choice is not legal there, the part may find the choice illegal
-- or stop, or make an entry at an index that isn't its own.
abbrev pub NewsAlike :
    Scene → Numbers → Creation → Context → Context → NewResult → NewResult → Type 0
NewsAlike s n new c d (Made i) (Made j) =
    (j ≡ i)
    × (s.homes.home (EntryNo new.chain (n.made new.chain)) ≡ s.bucket
    → s.homes.kept new.chain i (n.made new.chain) ≡ true
    → Agree s (one_more new.chain i n) (with_new s.packet c new i) (with_new s.packet d new i))
NewsAlike s n new c d (Made i) Stopped = (s.strict ≡ false) × (s.tight ≡ false)
NewsAlike s n new c d Taken Taken = Unit {0}
NewsAlike s n new c d Full Full = Unit {0}
NewsAlike s n new c d Full (Made j) = (s.by_part ≡ false) × (s.tight ≡ false)
NewsAlike s n new c d Full Illegal = s.tight ≡ false
NewsAlike s n new c d Full Stopped = s.tight ≡ false
NewsAlike s n new c d Illegal (Made j) = s.by_part ≡ false
NewsAlike s n new c d Illegal Illegal = Unit {0}
NewsAlike s n new c d Illegal Stopped = s.tight ≡ false
NewsAlike s n new c d Stopped Stopped = Unit {0}
NewsAlike s n new c d result part = ⊥

-- How two completions are alike, the first on the whole state and the second on the part, where k
-- and l are the events that follow. Where a `new` was full, the part may have none; where a choice
-- was not legal on the whole state, the part may go on with an index that isn't its own.
abbrev pub Alike : Scene → Numbers → (k l : Context → List Event) → Completion → Completion → Type 0
Alike s z k l (Normal c) (Normal d) =
    (n : Numbers) × Agree s n c d × Goes s z n (k c) × OwnPart s (l d)
Alike s z k l (Ended a c) (Ended b d) = (b ≡ a) × Agree s z c d
Alike s z k l NoStep (Normal d) = s.by_part ≡ false
Alike s z k l NoStep (Ended b d) = s.by_part ≡ false
Alike s z k l NoStep NoStep = Unit {0}
Alike s z k l NoStep (StoppedAt chain left) = s.tight ≡ true → s.by_part ≡ false
Alike s z k l (Normal c) NoStep = (s.strict ≡ false) × (s.tight ≡ false)
Alike s z k l (Normal c) (StoppedAt chain left) = (s.strict ≡ false) × (s.tight ≡ false)
Alike s z k l (Ended a c) NoStep = (s.strict ≡ false) × (s.tight ≡ false)
Alike s z k l (Ended a c) (StoppedAt chain left) = (s.strict ≡ false) × (s.tight ≡ false)
Alike s z k l (StoppedAt chain left) NoStep = s.tight ≡ false
Alike s z k l (StoppedAt chain left) (StoppedAt other rest) =
    s.tight ≡ true → (other ≡ chain) × (rest ≡ left)
Alike s z k l f g = ⊥
