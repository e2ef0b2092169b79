-- What a record of events says by itself: the entries made, whether each choice was legal, what was
-- touched and changed, the outcomes.
use Rattle.std.specs.Prelude.{ℕ, Bool, true, false, List, [], ◌∷◌, Option, Some, None, if◌then◌else◌}
use Rattle.std.specs.List.{list_any}
use Rattle.nf_base.specs.declared.decl.ObjectId.{ObjectId}
use Rattle.nf_base.specs.declared.decl.ObjectId.TheVariants as object
use Rattle.nf_base.specs.Operations.{NewResult, Made, Taken, Full, Illegal, Stopped}
use Rattle.nf_base.specs.Events.{Event, Tested, LookedUp, Found, AskedNew, EntryUsed, EntryFreed, CellRead, CellWritten}
use Rattle.nf_base.specs.Paths.{Branch, Hits, Misses, Makes, IsTaken, IsFull, Outcome}

-- an entry that was made
pub record NewEntry : Type 0 where
  pub chain : ℕ
  pub labels : List ℕ
  pub index : ℕ

-- the entry that a `new` made, by what it came to
abbrev pub made_by : ℕ → List ℕ → NewResult → Option NewEntry
made_by chain labels (Made i) = Some (record { chain = chain; labels = labels; index = i })
made_by chain labels Taken = None
made_by chain labels Full = None
made_by chain labels Illegal = None
made_by chain labels Stopped = None

-- the entry that an event made
abbrev pub made_of : Event → Option NewEntry
made_of (Tested place holds) = None
made_of (LookedUp place chain m key hit) = None
made_of (Found place chain hit) = None
made_of (AskedNew place chain labels result) = made_by chain labels result
made_of (EntryUsed chain i changed) = None
made_of (EntryFreed chain i) = None
made_of (CellRead place array i) = None
made_of (CellWritten place array i changed) = None

-- the index of an entry made, in front of what follows
abbrev pub index_made : Option NewEntry → List ℕ → List ℕ
index_made None rest = rest
index_made (Some made) rest = made.index ∷ rest

-- the indices of the entries made, in order
abbrev pub indices_made : List Event → List ℕ
indices_made [] = []
indices_made (e ∷ es) = index_made (made_of e) (indices_made es)

-- whether a `new` made an entry or said why not
abbrev pub is_answer : NewResult → Bool
is_answer (Made i) = true
is_answer Taken = true
is_answer Full = true
is_answer Illegal = false
is_answer Stopped = false

-- whether a `new` found no index vacant
abbrev pub is_full_answer : NewResult → Bool
is_full_answer (Made i) = false
is_full_answer Taken = false
is_full_answer Full = true
is_full_answer Illegal = false
is_full_answer Stopped = false

-- what the event of a `new` came to; no other event has it
abbrev pub result_of_new : Event → Option NewResult
result_of_new (Tested place holds) = None
result_of_new (LookedUp place chain m key hit) = None
result_of_new (Found place chain hit) = None
result_of_new (AskedNew place chain labels result) = Some result
result_of_new (EntryUsed chain i changed) = None
result_of_new (EntryFreed chain i) = None
result_of_new (CellRead place array i) = None
result_of_new (CellWritten place array i changed) = None

-- whether an event is no `new` without an answer
abbrev pub answers : Option NewResult → Bool
answers None = true
answers (Some result) = is_answer result

-- whether each `new` got an answer
abbrev pub is_legal : List Event → Bool
is_legal [] = true
is_legal (e ∷ es) = if answers (result_of_new e) then is_legal es else false

-- whether an event is a `new` that answered full
abbrev pub is_refusal : Option NewResult → Bool
is_refusal None = false
is_refusal (Some result) = is_full_answer result

-- whether some `new` answered full
abbrev pub answers_full : List Event → Bool
answers_full es = list_any (λ e. is_refusal (result_of_new e)) es

-- whether a `new` made an entry
abbrev pub is_made : NewResult → Bool
is_made (Made i) = true
is_made Taken = false
is_made Full = false
is_made Illegal = false
is_made Stopped = false

-- whether an operation changed the state
abbrev pub changes : Event → Bool
changes (Tested place holds) = false
changes (LookedUp place chain m key hit) = false
changes (Found place chain hit) = false
changes (AskedNew place chain labels result) = is_made result
changes (EntryUsed chain i changed) = changed
changes (EntryFreed chain i) = true
changes (CellRead place array i) = false
changes (CellWritten place array i changed) = changed

-- whether none did
abbrev pub is_quiet : List Event → Bool
is_quiet [] = true
is_quiet (e ∷ es) = if changes e then false else is_quiet es

-- the object that an event touched
abbrev pub touched_object : Event → Option ObjectId
touched_object (Tested place holds) = None
touched_object (LookedUp place chain m key hit) = Some (object.Chain chain)
touched_object (Found place chain hit) = Some (object.Chain chain)
touched_object (AskedNew place chain labels result) = Some (object.Chain chain)
touched_object (EntryUsed chain i changed) = Some (object.Chain chain)
touched_object (EntryFreed chain i) = Some (object.Chain chain)
touched_object (CellRead place array i) = Some (object.Array array)
touched_object (CellWritten place array i changed) = Some (object.Array array)

-- an object in front of others, where there is one
abbrev pub object_in_front : Option ObjectId → List ObjectId → List ObjectId
object_in_front None rest = rest
object_in_front (Some o) rest = o ∷ rest

-- the objects that were touched, in order
abbrev pub objects_touched : List Event → List ObjectId
objects_touched [] = []
objects_touched (e ∷ es) = object_in_front (touched_object e) (objects_touched es)

-- the objects that were changed, in order
abbrev pub objects_changed : List Event → List ObjectId
objects_changed [] = []
objects_changed (e ∷ es) =
    if changes e then object_in_front (touched_object e) (objects_changed es) else objects_changed es

-- the text place of an event; operations on a variable's entry have none
abbrev pub text_place : Event → Option ℕ
text_place (Tested place holds) = Some place
text_place (LookedUp place chain m key hit) = Some place
text_place (Found place chain hit) = Some place
text_place (AskedNew place chain labels result) = Some place
text_place (EntryUsed chain i changed) = None
text_place (EntryFreed chain i) = None
text_place (CellRead place array i) = Some place
text_place (CellWritten place array i changed) = Some place

-- how a look-up went
abbrev pub hit_branch : Option ℕ → Branch
hit_branch None = Misses
hit_branch (Some i) = Hits

-- how a test went
abbrev pub test_branch : Bool → Branch
test_branch true = Hits
test_branch false = Misses

-- the outcome of a `new`, where it has one
abbrev pub new_outcome : ℕ → NewResult → List Outcome → List Outcome
new_outcome place (Made i) rest = record { place = place; branch = Makes } ∷ rest
new_outcome place Taken rest = record { place = place; branch = IsTaken } ∷ rest
new_outcome place Full rest = record { place = place; branch = IsFull } ∷ rest
new_outcome place Illegal rest = rest
new_outcome place Stopped rest = rest

-- the outcome of an event, where it has one, in front of what follows
abbrev pub event_outcome : Event → List Outcome → List Outcome
event_outcome (Tested place holds) rest =
    record { place = place; branch = test_branch holds } ∷ rest
event_outcome (LookedUp place chain m key hit) rest =
    record { place = place; branch = hit_branch hit } ∷ rest
event_outcome (Found place chain hit) rest =
    record { place = place; branch = hit_branch hit } ∷ rest
event_outcome (AskedNew place chain labels result) rest = new_outcome place result rest
event_outcome (EntryUsed chain i changed) rest = rest
event_outcome (EntryFreed chain i) rest = rest
event_outcome (CellRead place array i) rest = rest
event_outcome (CellWritten place array i changed) rest = rest

-- the outcomes of a record: true, false, hit, miss, made, taken, full, in order
abbrev pub outcomes : List Event → List Outcome
outcomes [] = []
outcomes (e ∷ es) = event_outcome e (outcomes es)
