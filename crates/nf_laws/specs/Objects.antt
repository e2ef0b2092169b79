-- Which objects a text writes, and which an event is on.
use Rattle.std.specs.Prelude.{◌≡◌, ◌↔◌, ℕ, Bool, true, List, Option, Some, Contains}
use Rattle.nf_base.specs.Doors.{blocks}
use Rattle.nf_base.specs.declared.decl.ChainDecl.{ChainDecl}
use Rattle.nf_base.specs.declared.decl.ObjectId.{ObjectId}
use Rattle.nf_base.specs.declared.decl.ObjectId.TheVariants as object
use Rattle.nf_base.specs.declared.packet.Packet.{Packet}
use Rattle.nf_base.specs.declared.state.State.{State}
use Rattle.nf_base.specs.Text.{Expression, Given, Ending, Operation, Store, Question, Creation, Block, End, Do, Ask, Make, Function}
use Rattle.nf_base.specs.Statements.{Statement, Ends, Does, Asks, Makes, statements}
use Rattle.nf_base.specs.Objects.{is_written}
use Rattle.nf_base.specs.Operations.{NewResult}
use Rattle.nf_base.specs.Events.{Event, LookedUp, Found, AskedNew, EntryUsed, EntryFreed, CellRead, CellWritten}
use Rattle.nf_base.specs.Record.{NewEntry, made_of, changes, touched_object, objects_touched, objects_changed}
use Rattle.nf_base.specs.Step.{recorded}
use Rattle.nf_base.specs.Locations.{Location, object_of, Numbers}
use Rattle.nf_laws.specs.Touching.{Touches}

-- a statement that stands in a block, at any depth
pub data Stands (s : Statement) : Block → Type 0 where
  in_end : (e : Ending) → s ≡ Ends e → Stands s (End e)
  in_do : (op : Operation) (next : Block) → s ≡ Does op → Stands s (Do op next)
  in_ask : (q : Question) (hit miss next : Block) → s ≡ Asks q → Stands s (Ask q hit miss next)
  in_make : (n : Creation) (made taken full next : Block) → s ≡ Makes n →
      Stands s (Make n made taken full next)
  behind_do : (op : Operation) (next : Block) → Stands s next → Stands s (Do op next)
  where_hit : (q : Question) (hit miss next : Block) → Stands s hit → Stands s (Ask q hit miss next)
  where_missed : (q : Question) (hit miss next : Block) → Stands s miss →
      Stands s (Ask q hit miss next)
  behind_ask : (q : Question) (hit miss next : Block) → Stands s next →
      Stands s (Ask q hit miss next)
  where_made : (n : Creation) (made taken full next : Block) → Stands s made →
      Stands s (Make n made taken full next)
  where_taken : (n : Creation) (made taken full next : Block) → Stands s taken →
      Stands s (Make n made taken full next)
  where_full : (n : Creation) (made taken full next : Block) → Stands s full →
      Stands s (Make n made taken full next)
  behind_make : (n : Creation) (made taken full next : Block) → Stands s next →
      Stands s (Make n made taken full next)

-- exactly these are a block's statements
abbrev pub StatementsAreThoseThatStand : Type 0
StatementsAreThoseThatStand = (s : Statement) (block : Block) →
    Contains (statements block) s ↔ Stands s block

-- a `new` writes its chain, and a store its array
pub data Writes : ObjectId → Statement → Type 0 where
  by_new : (n : Creation) → Writes (object.Chain n.chain) (Makes n)
  by_store : (place array : ℕ) (at : Expression) (g : Given) →
      Writes (object.Array array) (Does (Store place array at g))

-- a statement of a function that writes an object
pub record Writer (f : Function) (o : ObjectId) : Type 0 where
  pub block : Block
  pub statement : Statement
  pub handler : Contains (blocks f) block
  pub stands : Stands statement block
  pub writes : Writes o statement

-- an object is written exactly where the text has such a statement
abbrev pub WrittenIsByTheText : Type 0
WrittenIsByTheText = (f : Function) (o : ObjectId) → (is_written f o ≡ true) ↔ Writer f o

-- what a packet makes an entry of, or stores to, is written
pub record WritesAreOfTheText (f : Function) (es : List Event) : Type 0 where
  pub chains : (e : Event) (made : NewEntry) → Contains es e → made_of e ≡ Some made →
      is_written f (object.Chain made.chain) ≡ true
  pub arrays : (place array i : ℕ) (changed : Bool) →
      Contains es (CellWritten place array i changed) →
      is_written f (object.Array array) ≡ true

-- so it is of each packet's record
abbrev pub PacketsWriteWhatIsWritten : Type 0
PacketsWriteWhatIsWritten = (f : Function) (s : State) (packet : Packet) (choices : List ℕ) →
    WritesAreOfTheText f (recorded f s packet choices)

-- the object that an event is on: the chain or the array that it names
pub data IsOn : Event → ObjectId → Type 0 where
  looked_up : (place chain m : ℕ) (key : List ℕ) (hit : Option ℕ) →
      IsOn (LookedUp place chain m key hit) (object.Chain chain)
  found : (place chain : ℕ) (hit : Option ℕ) → IsOn (Found place chain hit) (object.Chain chain)
  asked : (place chain : ℕ) (labels : List ℕ) (result : NewResult) →
      IsOn (AskedNew place chain labels result) (object.Chain chain)
  used : (chain i : ℕ) (changed : Bool) → IsOn (EntryUsed chain i changed) (object.Chain chain)
  freed : (chain i : ℕ) → IsOn (EntryFreed chain i) (object.Chain chain)
  read : (place array i : ℕ) → IsOn (CellRead place array i) (object.Array array)
  written : (place array i : ℕ) (changed : Bool) →
      IsOn (CellWritten place array i changed) (object.Array array)

-- exactly these are the objects of events
abbrev pub EventsAreOnObjects : Type 0
EventsAreOnObjects = (e : Event) (o : ObjectId) → (touched_object e ≡ Some o) ↔ IsOn e o

-- each location that an event touches belongs to the object that the event is on
abbrev pub LocationsAreOfTheirObject : Type 0
LocationsAreOfTheirObject = (decls : List ChainDecl) (ns : Numbers) (e : Event) (x : Location) →
    Touches decls ns e x → IsOn e (object_of x)

-- an event of a record on an object
pub record EventOn (es : List Event) (o : ObjectId) : Type 0 where
  pub event : Event
  pub told : Contains es event
  pub on : IsOn event o

-- and one that changed it
pub record ChangeOf (es : List Event) (o : ObjectId) : Type 0 where
  pub on : EventOn es o
  pub changed : changes on.event ≡ true

-- the objects of a record are exactly those of its events, those changed a part of those touched
pub record HasObjects (es : List Event) (o : ObjectId) : Type 0 where
  pub touched : Contains (objects_touched es) o ↔ EventOn es o
  pub changed : Contains (objects_changed es) o ↔ ChangeOf es o
  pub part : Contains (objects_changed es) o → Contains (objects_touched es) o

-- so it is of each record
abbrev pub ObjectsAreThoseOfEvents : Type 0
ObjectsAreThoseOfEvents = (es : List Event) (o : ObjectId) → HasObjects es o
