-- How far a call came that reads a text and captures.
use Rattle.std.specs.Prelude.{◌≡◌, ℕ, ◌+◌, ◌<◌, ◌≤◌, List, [], ◌∷◌, length, map, slice_get, Some, Result, Ok, Err}
use Rattle.nf_base.specs.Doors.{six_ports}
use Rattle.nf_base.specs.Functions.{function_of}
use Rattle.nf_base.specs.Text.{Function}
use Rattle.nf_files.specs.Told.{Told}
use Rattle.nf_files.specs.Causes.{Counted, Asked, asking}
use Rattle.packet_feed.specs.Told.{IsCapture, IsNoCapture, KeepsOthers}
use Rattle.packet_feed.specs.declared.fault.FeedFault.{FeedFault}
use Rattle.packet_feed.specs.declared.fault.FeedFault.TheVariants as feed
use Rattle.packet_feed.specs.Sources.{files_in, sixes_in}
use Rattle.packet_feed.specs.Feeding.{Feeding, StandsFor}
use Rattle.packet_feed.specs.Ports.{StandsByPort}
use Rattle.call_base.specs.declared.inputs.Inputs.{Inputs}
use Rattle.call_base.specs.declared.loading.Found.{Found}
use Rattle.call_base.specs.declared.loading.NoFunction.{NoFunction}
use Rattle.call_base.specs.declared.loading.NoFunction.TheVariants as none
use Rattle.call_base.specs.declared.status.RunFile.TheVariants.{Nf, Capture, Journal, Output, OutJournal, State, Proof, Stdout, Stderr}
use Rattle.call_base.specs.declared.status.Refusal.TheVariants as refusals
use Rattle.call_base.specs.declared.status.CallFault.{CallFault}
use Rattle.call_base.specs.declared.status.CallFault.TheVariants.{File, Memory}
use Rattle.call_base.specs.declared.status.Halt.{Halt}
use Rattle.call_base.specs.declared.status.Halt.TheVariants as halts
use Rattle.call_base.specs.Captures.{Below}
use Rattle.call_base.specs.Names.{reading}
use Rattle.call_base.specs.Numbers.{Faults, IsFrontOf}
use Rattle.call_base.specs.Outside.{Outside, IsUntouched, HasOnlyAsked}
use Rattle.call_base.specs.Source.{IsFunctionUnder}

-- what a call reads first: the text of a function, and captures, of which at most so many packets
pub record Reads : Type 0 where
  pub text : List ℕ
  pub captures : List (List ℕ)
  pub most : ℕ

-- the names that it asks for
abbrev pub names_of : Reads → List Asked
names_of c = reading c.text ∷ map reading c.captures

-- why there is no function, for a call
abbrev pub halt_of : NoFunction → Halt
halt_of (none.Text fault) = halts.Refusal (refusals.Text fault)
halt_of (none.Stop stop) = halts.Stop stop

-- ---- the text

-- the function was read
pub record HasFound (text : List ℕ) (before now : Outside) (found : Found) : Type 0 where
  pub is_function : IsFunctionUnder before.told text (function_of found.source.func)
  pub number : found.file ≡ before.told.next
  pub from_two : 2 ≤ found.file
  pub next : now.told.next ≡ before.told.next + 1
  pub only : HasOnlyAsked (reading text ∷ []) before now

-- ---- the captures

-- The captures were opened, and nothing of them was read yet.
pub record HasOpened (c : Reads) (before now : Outside) (captures : List ℕ) : Type 0 where
  pub next : now.told.next ≡ before.told.next + 1 + length captures
  pub all : length captures ≡ length c.captures
  pub numbers : (i f : ℕ) → slice_get captures i ≡ Some f → f ≡ before.told.next + 1 + i
  pub rests : (i f : ℕ) (n : List ℕ) → slice_get captures i ≡ Some f → slice_get c.captures i ≡ Some n → now.told.rest f ≡ before.told.content n
  pub only : HasOnlyAsked (names_of c) before now

-- files have the numbers from one on, and are fewer than so many
abbrev pub AreFrom : ℕ → List ℕ → ℕ → Type 0
AreFrom first files count = (i f : ℕ) → slice_get files i ≡ Some f → (f ≡ first + i) × (i < count)

-- A feed is of the captures of a function's ports, of which it gives at most so many packets, and gave
-- none yet. It knows which ports have a handler for IPv6.
pub record IsFresh (f : Function) (limit : ℕ) (captures : List ℕ) (feed : Feeding) : Type 0 where
  pub files : files_in feed.sources ≡ captures
  pub six : sixes_in feed.sources ≡ six_ports f
  pub most : feed.most ≡ limit
  pub new : feed.given ≡ 0

-- Their headers were read: a feed stands for what stood under their names.
pub record HasFed (c : Reads) (f : Function) (before now : Outside) (captures : List ℕ) (feed : Feeding) : Type 0 where
  pub old : Outside
  pub opened : HasOpened c before old captures
  pub kept : KeepsOthers captures old.told now.told
  pub counted : now.counted ≡ old.counted
  pub stands : StandsFor old.told [] feed now.told
  pub by_port : StandsByPort old.told [] feed now.told
  pub fresh : IsFresh f c.most captures feed

-- why captures can't be read, for a call
abbrev pub unfed : FeedFault → Halt
unfed (feed.NotCapture port) = halts.Refusal (refusals.NotCapture port)
unfed (feed.File port) = halts.Stop (File (Capture port))
unfed feed.Memory = halts.Stop Memory

-- The file of a port is the first that is no capture.
pub record IsFirstBad (c : Reads) (told : Told) (port : ℕ) : Type 0 where
  pub name : List ℕ
  pub at : slice_get c.captures port ≡ Some name
  pub none : IsNoCapture (told.content name)
  pub lesser : Below IsCapture told c.captures port

-- A capture failed; where all were opened, those of lesser ports have headers.
pub record HasFailed (c : Reads) (before now : Told) (old new : Counted) (port : ℕ) : Type 0 where
  pub from_two : 2 ≤ before.next
  pub within : port < length c.captures
  pub faulted : Faults old new (before.next + 1 + port)
  pub lesser : before.next + 1 + length c.captures ≤ now.next → Below IsCapture before c.captures port

-- the text or a capture failed, or memory ran out
abbrev pub IsReadCause : Reads → (before now : Told) → Counted → Counted → CallFault → Type 0
IsReadCause c before now old new (File Nf) = Faults old new before.next
IsReadCause c before now old new (File (Capture port)) = HasFailed c before now old new port
IsReadCause c before now old new (File Journal) = ⊥
IsReadCause c before now old new (File (Output port)) = ⊥
IsReadCause c before now old new (File OutJournal) = ⊥
IsReadCause c before now old new (File State) = ⊥
IsReadCause c before now old new (File Proof) = ⊥
IsReadCause c before now old new (File Stdout) = ⊥
IsReadCause c before now old new (File Stderr) = ⊥
IsReadCause c before now old new Memory = new ≡ old

-- A call was stopped before its captures were read. It had asked for the first of its names, and nothing
-- has changed.
pub record IsUnread (c : Reads) (before now : Outside) (stop : CallFault) : Type 0 where
  pub untouched : IsUntouched before.told now.told
  pub front : List Asked
  pub is_front : IsFrontOf (names_of c) front
  pub cause : IsReadCause c before.told now.told (asking front before.counted) now.counted stop

-- what reading the captures comes to
abbrev pub ReadsTo : Reads → Function → Outside → Outside → Result Inputs Halt → Type 0
ReadsTo c f before now (Ok inputs) = HasFed c f before now inputs.captures.items inputs.feed
ReadsTo c f before now (Err (halts.Refusal (refusals.NotCapture port))) =
    IsFirstBad c before.told port × HasOnlyAsked (names_of c) before now
ReadsTo c f before now (Err (halts.Refusal refusals.Usage)) = ⊥
ReadsTo c f before now (Err (halts.Refusal (refusals.Text fault))) = ⊥
ReadsTo c f before now (Err (halts.Refusal (refusals.NoKeys why))) = ⊥
ReadsTo c f before now (Err (halts.Stop stop)) = IsUnread c before now stop
