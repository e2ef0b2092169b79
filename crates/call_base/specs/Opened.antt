-- Names that are opened and created one after another.
use Rattle.std.specs.Prelude.{◌≡◌, ◌≢◌, ◌⊎◌, ℕ, ◌+◌, ◌<◌, ◌≤◌, List, [], ◌∷◌, length, Some, slice_get, Result, Ok, Err}
use Rattle.nf_files.specs.declared.kind.Kind.{Kind}
use Rattle.nf_files.specs.Told.{Told, IsToldAs, IsEmptyIfTold}
use Rattle.nf_files.specs.Causes.{Counted, FaultedAsking, Asked, asking}
use Rattle.stream_run.specs.declared.fault.RunFault.{RunFault}
use Rattle.stream_run.specs.declared.fault.RunFault.TheVariants.{File, Memory}
use Rattle.call_base.specs.Outside.{IsUntouched}
use Rattle.call_base.specs.Numbers.{Faults, IsFrontOf}
use Rattle.call_base.specs.Created.{IsStanding}

-- The count of a call that asks for a name under this number.
abbrev pub AsksNext : {T : Type 0} → Asked → ℕ → Counted → Counted → Result T RunFault → Type 0
AsksNext name number old new (Ok x) = new ≡ asking (name ∷ []) old
AsksNext name number old new (Err Memory) = (new ≡ old) ⊎ (new ≡ asking (name ∷ []) old)
AsksNext name number old new (Err (File file)) = (file ≡ number) × FaultedAsking old new (name ∷ []) file

-- The count of calls that were stopped: it changes where a file failed, and there alone.
abbrev pub IsAskCause : Counted → Counted → RunFault → Type 0
IsAskCause old new Memory = new ≡ old
IsAskCause old new (File file) = Faults old new file

-- The first of some names were asked for, and then a call was stopped.
pub record AsksSome (names : List Asked) (old new : Counted) (stop : RunFault) : Type 0 where
  pub front : List Asked
  pub is_front : IsFrontOf names front
  pub cause : IsAskCause (asking front old) new stop

-- all of some names were asked for, or some
abbrev pub AsksAll : {T : Type 0} → List Asked → Counted → Counted → Result T RunFault → Type 0
AsksAll names old new (Ok x) = new ≡ asking names old
AsksAll names old new (Err stop) = AsksSome names old new stop

-- a stop by a file among so many whose numbers begin at one, or for want of memory
abbrev pub StopsFrom : ℕ → ℕ → RunFault → Type 0
StopsFrom first count Memory = Unit {0}
StopsFrom first count (File file) = (first ≤ file) × (file < first + count)

-- a stop by the file that would have had this number, or for want of memory
abbrev pub StopsNext : ℕ → RunFault → Type 0
StopsNext next Memory = Unit {0}
StopsNext next (File file) = file ≡ next

-- these names were opened, under these numbers, and nothing of them was read yet
pub record AreOpened (before now : Told) (names : List (List ℕ)) (opened : List ℕ) : Type 0 where
  pub next : now.next ≡ before.next + length opened
  pub numbers : (i f : ℕ) → slice_get opened i ≡ Some f → f ≡ before.next + i
  pub rests : (i f : ℕ) (n : List ℕ) → slice_get opened i ≡ Some f → slice_get names i ≡ Some n → now.rest f ≡ before.content n

-- So many names were created under the next numbers, and nothing was given to them; nothing else has
-- changed.
pub record AreCreated (before now : Told) (name : ℕ → List ℕ) (made : ℕ) : Type 0 where
  pub next : now.next ≡ before.next + made
  pub names : (k : ℕ) → k < made → IsToldAs (name k) (now.name (before.next + k))
  pub standing : (k : ℕ) → k < made → IsStanding now (name k) (before.next + k)
  pub empties : (k : ℕ) → k < made → IsEmptyIfTold (now.given (before.next + k))
  pub contents : (n : List ℕ) → ((k : ℕ) → k < made → name k ≢ n) → now.content n ≡ before.content n
  pub rests : (g : ℕ) → g < before.next → now.rest g ≡ before.rest g
  pub givens : (g : ℕ) → g < before.next → now.given g ≡ before.given g
  pub kinds : (g : ℕ) (k : Kind) → before.kind g ≡ Some k → now.kind g ≡ Some k

-- all of so many names were created, under these numbers
pub record AreAllCreated (before now : Told) (name : ℕ → List ℕ) (targets : List ℕ) (count : ℕ) : Type 0 where
  pub created : AreCreated before now name count
  pub all : length targets ≡ count
  pub numbers : (i f : ℕ) → slice_get targets i ≡ Some f → f ≡ before.next + i

-- The first of so many names were created, and the next one could not be.
pub record AreSomeCreated (before now : Told) (name : ℕ → List ℕ) (count : ℕ) (stop : RunFault) : Type 0 where
  pub made : ℕ
  pub less : made ≤ count
  pub created : AreCreated before now name made
  pub at : (file : ℕ) → stop ≡ File file → (file ≡ before.next + made) × (made < count)
