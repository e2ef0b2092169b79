-- What writing a certificate and then printing the verdict comes to.
use Rattle.std.specs.Prelude.{◌≡◌, ◌⊎◌, ◌<◌, ◌≤◌, ℕ, List, [], ◌∷◌, None, Result, Ok, Err}
use Rattle.nf_files.specs.Causes.{Counted, Faulted, FaultedAsking, asking}
use Rattle.nf_files.specs.Writes.{WritesFront}
use Rattle.call_base.specs.declared.status.RunFile.TheVariants.{Proof}
use Rattle.call_base.specs.declared.status.CallFault.{CallFault}
use Rattle.call_base.specs.declared.status.CallFault.TheVariants.{File, Memory}
use Rattle.call_base.specs.Leaving.{IsOut}
use Rattle.call_base.specs.Names.{writing}
use Rattle.call_base.specs.Outside.{Outside, IsUntouched}
use Rattle.call_base.specs.Printed.{Printed, PrintedFront}
use Rattle.call_base.specs.PrintedOut.{IsPrintCause}
use Rattle.prove_call.specs.Written.{HoldsWhole, HoldsFront}

-- ---- why it is stopped

-- the certificate's file, which would have had this number, could not be created, or memory ran out
abbrev pub IsCreateCause : List ℕ → ℕ → Counted → Counted → CallFault → Type 0
IsCreateCause name file old new (File which) =
    (which ≡ Proof) × FaultedAsking old new (writing name ∷ []) file
IsCreateCause name file old new Memory = (new ≡ old) ⊎ (new ≡ asking (writing name ∷ []) old)

-- the certificate's file, which has this number, could not be written, or memory ran out
abbrev pub IsWriteCause : ℕ → Counted → Counted → CallFault → Type 0
IsWriteCause file old new (File which) = (which ≡ Proof) × Faulted old new file
IsWriteCause file old new Memory = new ≡ old

-- ---- how far it comes, where so much is counted once the certificate's name is asked for

-- both texts were left
pub record AreLeft (name : List ℕ) (file : ℕ) (asked : Counted) (certificate printed : List ℕ)
    (before now : Outside) : Type 0 where
  pub holds : HoldsWhole before.told now.told name file certificate
  pub stdout : Printed before.told now.told 0 printed
  pub stderr : now.told.given 1 ≡ before.told.given 1
  pub counted : now.counted ≡ asked

-- a front of the certificate was written, and nothing printed
pub record IsHalfWritten (name : List ℕ) (file : ℕ) (asked : Counted) (certificate : List ℕ)
    (before now : Outside) (stop : CallFault) : Type 0 where
  pub holds : HoldsFront before.told now.told name file certificate
  pub standard : (g : ℕ) → g < 2 → now.told.given g ≡ before.told.given g
  pub cause : IsWriteCause file asked now.counted stop

-- the certificate was written whole, and a front of the verdict printed
pub record IsHalfPrinted (name : List ℕ) (file : ℕ) (asked : Counted)
    (certificate printed : List ℕ) (before now : Outside) (stop : CallFault) : Type 0 where
  pub holds : HoldsWhole before.told now.told name file certificate
  pub stdout : PrintedFront before.told now.told 0 printed
  pub stderr : now.told.given 1 ≡ before.told.given 1
  pub cause : IsPrintCause asked now.counted stop

-- nothing was created, written or printed
pub record IsUncreated (name : List ℕ) (file : ℕ) (before now : Outside) (old : Counted)
    (stop : CallFault) : Type 0 where
  pub untouched : IsUntouched before.told now.told
  pub cause : IsCreateCause name file old now.counted stop

-- ---- step by step

-- a certificate was written
pub record IsWritten (name certificate : List ℕ) (before now : Outside) : Type 0 where
  pub from_two : 2 ≤ before.told.next
  pub holds : HoldsWhole before.told now.told name before.told.next certificate
  pub standard : (g : ℕ) → g < 2 → now.told.given g ≡ before.told.given g
  pub counted : now.counted ≡ asking (writing name ∷ []) before.counted

-- what writing it comes to
abbrev pub WritesUnder : {T : Type 0} → List ℕ → List ℕ → Outside → Outside → Result T CallFault →
    Type 0
WritesUnder name certificate before now (Ok x) = IsWritten name certificate before now
WritesUnder name certificate before now (Err stop) =
    IsUncreated name before.told.next before now before.counted stop
    ⊎ IsHalfWritten name before.told.next (asking (writing name ∷ []) before.counted) certificate before now stop

-- a front of a text was printed
pub record IsHalfOut (text : List ℕ) (old new : Outside) (stop : CallFault) : Type 0 where
  pub unnamed : old.told.name 0 ≡ None
  pub wrote : WritesFront old.told new.told 0 text
  pub cause : IsPrintCause old.counted new.counted stop

-- what printing a text comes to
abbrev pub PrintsOut : {T : Type 0} → List ℕ → Outside → Outside → Result T CallFault → Type 0
PrintsOut text old new (Ok x) = IsOut text old new
PrintsOut text old new (Err stop) = IsHalfOut text old new stop

-- what both come to
abbrev pub Leaves : {T : Type 0} → (name certificate printed : List ℕ) → Outside → Outside →
    Result T CallFault → Type 0
Leaves name certificate printed before now (Ok x) =
    AreLeft name before.told.next (asking (writing name ∷ []) before.counted) certificate printed before now
Leaves name certificate printed before now (Err stop) =
    IsUncreated name before.told.next before now before.counted stop
    ⊎ (IsHalfWritten name before.told.next (asking (writing name ∷ []) before.counted) certificate before now stop
    ⊎ IsHalfPrinted name before.told.next (asking (writing name ∷ []) before.counted) certificate printed before now stop)
