-- What reading the function under a name comes to.
use Rattle.std.specs.Prelude.{◌≡◌, ◌⊎◌, ◌≤◌, ℕ, List, [], ◌∷◌, Result, Ok, Err}
use Rattle.nf_base.specs.Functions.{function_of}
use Rattle.nf_files.specs.Told.{Told, IsToldAs}
use Rattle.nf_files.specs.Causes.{Counted, FaultedAsking, asking}
use Rattle.call_base.specs.declared.loading.Text.{Text}
use Rattle.call_base.specs.declared.loading.Found.{Found}
use Rattle.call_base.specs.declared.loading.NoFunction.{NoFunction}
use Rattle.call_base.specs.declared.loading.NoFunction.TheVariants as none
use Rattle.call_base.specs.declared.status.RunFile.TheVariants.{Nf}
use Rattle.call_base.specs.declared.status.CallFault.{CallFault}
use Rattle.call_base.specs.declared.status.CallFault.TheVariants.{File, Memory}
use Rattle.call_base.specs.Names.{reading}
use Rattle.call_base.specs.Source.{path_counts, IsFunctionUnder, IsNoFunctionUnder}

-- these bytes stood under a name, which was opened next
pub record IsTextAt (told : Told) (name : List ℕ) (text : Text) : Type 0 where
  pub told_as : IsToldAs text.bytes.items (told.content name)
  pub number : text.file ≡ told.next
  pub from_two : 2 ≤ text.file

-- the function under a name as the code holds it, with its numbers of paths
pub record HoldsUnder (told : Told) (name : List ℕ) (found : Found) : Type 0 where
  pub is_function : IsFunctionUnder told name (function_of found.source.func)
  pub counts : found.source.paths.items ≡ path_counts (function_of found.source.func)
  pub number : found.file ≡ told.next
  pub from_two : 2 ≤ found.file

-- what reading the function under a name comes to; why it is stopped is said by the cause
abbrev pub FindsFunction : Told → List ℕ → Result Found NoFunction → Type 0
FindsFunction told name (Ok found) = HoldsUnder told name found
FindsFunction told name (Err (none.Text fault)) = IsNoFunctionUnder told name fault
FindsFunction told name (Err (none.Stop stop)) = Unit {0}

-- the text's file failed, which is the first that is opened, or memory ran out
abbrev pub IsTextCause : List ℕ → ℕ → Counted → Counted → CallFault → Type 0
IsTextCause name first old new (File file) = (file ≡ Nf) × FaultedAsking old new (reading name ∷ []) first
IsTextCause name first old new Memory = (new ≡ old) ⊎ (new ≡ asking (reading name ∷ []) old)

-- the count of that
abbrev pub HasFoundCause : List ℕ → ℕ → Counted → Counted → Result Found NoFunction → Type 0
HasFoundCause name first old new (Ok found) = new ≡ asking (reading name ∷ []) old
HasFoundCause name first old new (Err (none.Text fault)) = new ≡ asking (reading name ∷ []) old
HasFoundCause name first old new (Err (none.Stop stop)) = IsTextCause name first old new stop
