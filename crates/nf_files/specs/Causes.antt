-- When a call may answer that the outside failed.
use Rattle.std.specs.Prelude.{◌≡◌, ◌⊎◌, ℕ, ◌+◌, ◌-◌, ◌^◌, ◌≤◌, Bool, true, false, List, [], ◌∷◌, ◌++◌, map, min, Option, Some, None, Result, Ok, Err}
use Rattle.nf_files.specs.declared.kind.Kind.{Kind}
use Rattle.nf_files.specs.declared.opening.Opening.{Opening}
use Rattle.nf_files.specs.declared.count.FaultCount.{FaultCount}
use Rattle.nf_files.specs.declared.fault.FilesFault.{FilesFault}
use Rattle.nf_files.specs.declared.fault.FilesFault.TheVariants.{Failed, Memory}

-- a name that was asked to be opened or created, and which of the two
pub record Asked : Type 0 where
  pub name : List ℕ
  pub kind : Kind

-- The faults that were counted, the file of the first, and the names that were asked to be opened or
-- created in their order, those of calls that failed too; and whether some of these are missing, since
-- a call failed that had no memory to take its name down.
pub record Counted : Type 0 where
  pub faults : ℕ
  pub first : Option ℕ
  pub asked : List Asked
  pub missing : Bool

-- what the code took down of a name that was asked for
abbrev pub asked_of : Opening → Asked
asked_of o = record { name = o.name.items; kind = o.kind }

-- what a count of faults tells
abbrev pub counted_of : FaultCount → Counted
counted_of c = record {
  faults = c.faults;
  first = c.first;
  asked = map asked_of c.openings.items;
  missing = c.missing;
}

-- no fault, and no name
abbrev pub no_calls : Counted
no_calls = record { faults = 0; first = None; asked = []; missing = false }

-- a name that was asked for
abbrev pub an_asking : List ℕ → Kind → List Asked
an_asking name kind = record { name = name; kind = kind } ∷ []

-- the same after more names were asked for
abbrev pub asking : List Asked → Counted → Counted
asking names c = record { faults = c.faults; first = c.first; asked = c.asked ++ names; missing = c.missing }

-- the same after a name was asked for that wasn't taken down
abbrev pub losing : Counted → Counted
losing c = record { faults = c.faults; first = c.first; asked = c.asked; missing = true }

-- no file is the first to fail exactly where no fault was counted
abbrev pub IsCount : Counted → Type 0
IsCount counted = (counted.first ≡ None → counted.faults ≡ 0) × (counted.faults ≡ 0 → counted.first ≡ None)

-- the count rose, or stands at its end
abbrev pub Rose : ℕ → ℕ → Type 0
Rose before now = min (before + 1) (2 ^ 64 - 1) ≤ now

-- the file of the first fault after one more, on a file
abbrev pub FirstAfter : Option ℕ → ℕ → Option ℕ → Type 0
FirstAfter (Some first) file now = now ≡ Some first
FirstAfter None file now = now ≡ Some file

-- one more fault was counted, on a file
pub record Faulted (old new : Counted) (file : ℕ) : Type 0 where
  pub later : old.faults ≤ new.faults
  pub rose : Rose old.faults new.faults
  pub first : FirstAfter old.first file new.first
  pub asked : new.asked ≡ old.asked
  pub missing : new.missing ≡ old.missing

-- one more fault was counted, of a call that asked for names, or had no memory to take them down
abbrev pub FaultedAsking : Counted → Counted → List Asked → ℕ → Type 0
FaultedAsking old new names file = Faulted (asking names old) new file ⊎ Faulted (losing old) new file

-- the count of a call on a file: it changes where the call failed, and there alone
abbrev pub HasCause : {T : Type 0} → Counted → Counted → ℕ → Result T FilesFault → Type 0
HasCause old new file (Ok x) = new ≡ old
HasCause old new file (Err (Memory e)) = new ≡ old
HasCause old new file (Err Failed) = Faulted old new file

-- The count of a call that asks for a name, which would get this number: the name was asked for; where
-- memory ran out perhaps not, and where the call failed it may be missing.
abbrev pub HasAsked : {T : Type 0} → Counted → Counted → List Asked → ℕ → Result T FilesFault → Type 0
HasAsked old new one file (Ok x) = new ≡ asking one old
HasAsked old new one file (Err (Memory e)) = (new ≡ old) ⊎ (new ≡ asking one old)
HasAsked old new one file (Err Failed) = FaultedAsking old new one file
