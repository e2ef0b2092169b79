-- What printing a line of a hash, or a text on a function, comes to before that is told on standard error.
use Rattle.std.specs.Prelude.{◌≡◌, ◌⊎◌, ℕ, List, [], ◌∷◌, Result, Ok, Err}
use Rattle.nf_base.specs.Text.{Function}
use Rattle.nf_base.specs.declared.card.Card.{Card}
use Rattle.nf_files.specs.Told.{Told}
use Rattle.nf_files.specs.Causes.{Counted, Faulted, FaultedAsking, asking}
use Rattle.command_words.specs.Commands.{Hash, Describe}
use Rattle.stream_run.specs.declared.fault.RunFault.{RunFault}
use Rattle.stream_run.specs.declared.fault.RunFault.TheVariants as numbered
use Rattle.call_base.specs.declared.status.RunFile.TheVariants.{Nf, Stdout}
use Rattle.call_base.specs.declared.status.CallFault.{CallFault}
use Rattle.call_base.specs.declared.status.CallFault.TheVariants.{File, Memory}
use Rattle.call_base.specs.declared.status.TextFault.{TextFault}
use Rattle.call_base.specs.declared.loading.NoFunction.{NoFunction}
use Rattle.call_base.specs.declared.loading.NoFunction.TheVariants as none
use Rattle.command_words.specs.declared.command.Description.{Description}
use Rattle.call_base.specs.Outside.{Outside, IsUntouched, HasOnlyAsked}
use Rattle.call_base.specs.Names.{reading}
use Rattle.call_base.specs.Source.{IsFunctionUnder, IsNoFunctionUnder}
use Rattle.call_base.specs.Printed.{Printed, PrintedFront}
use Rattle.call_base.specs.PrintedOut.{IsPrintCause, PrintsTo}
use Rattle.call_base.specs.Loading.{IsTextCause}
use Rattle.describe_call.specs.Describing.{IsDescription}
use Rattle.describe_call.specs.Hashing.{hash_line}

-- The line of a hash was printed, and nothing else. No name was asked for.
pub record IsHashed (c : Hash) (before now : Outside) : Type 0 where
  pub contents : (n : List ℕ) → now.told.content n ≡ before.told.content n
  pub stdout : Printed before.told now.told 0 (hash_line c)
  pub stderr : now.told.given 1 ≡ before.told.given 1
  pub counted : now.counted ≡ before.counted

-- That was stopped: nothing of the line was printed, or a front of it.
pub record IsUnhashed (c : Hash) (before now : Outside) (stop : CallFault) : Type 0 where
  pub contents : (n : List ℕ) → now.told.content n ≡ before.told.content n
  pub stdout : (now.told.given 0 ≡ before.told.given 0) ⊎ PrintedFront before.told now.told 0 (hash_line c)
  pub stderr : now.told.given 1 ≡ before.told.given 1
  pub cause : IsPrintCause before.counted now.counted stop

-- What stands under the name is a function, and its text was printed, and no more.
pub record IsDescribed (c : Describe) (before now : Outside) : Type 0 where
  pub function : Function
  pub is_function : IsFunctionUnder before.told c.function function
  pub text : List ℕ
  pub is_text : IsDescription c.what function c.card text
  pub contents : (n : List ℕ) → now.told.content n ≡ before.told.content n
  pub stdout : Printed before.told now.told 0 text
  pub stderr : now.told.given 1 ≡ before.told.given 1
  pub counted : now.counted ≡ asking (reading c.function ∷ []) before.counted

-- What stands under the name is no function, and this is its first fault.
abbrev pub IsNotDescribed : Describe → Outside → Outside → TextFault → Type 0
IsNotDescribed c before now fault =
    IsNoFunctionUnder before.told c.function fault × HasOnlyAsked (reading c.function ∷ []) before now

-- What stands under the name could not be read, or memory ran out before anything was printed.
pub record IsUnread (c : Describe) (before now : Outside) (stop : CallFault) : Type 0 where
  pub untouched : IsUntouched before.told now.told
  pub cause : IsTextCause c.function before.told.next before.counted now.counted stop

-- What stands under the name is a function, and a front of its text was printed.
pub record IsHalfDescribed (c : Describe) (before now : Outside) (stop : CallFault) : Type 0 where
  pub function : Function
  pub is_function : IsFunctionUnder before.told c.function function
  pub text : List ℕ
  pub is_text : IsDescription c.what function c.card text
  pub contents : (n : List ℕ) → now.told.content n ≡ before.told.content n
  pub stdout : PrintedFront before.told now.told 0 text
  pub stderr : now.told.given 1 ≡ before.told.given 1
  pub cause : IsPrintCause (asking (reading c.function ∷ []) before.counted) now.counted stop

-- That was stopped.
abbrev pub IsUndescribed : Describe → Outside → Outside → CallFault → Type 0
IsUndescribed c before now stop = IsUnread c before now stop ⊎ IsHalfDescribed c before now stop

-- what printing a text on a function comes to; memory may run out before there is one
pub record PrintsOne {T : Type 0} (what : Description) (f : Function) (card : Card) (before now : Outside) (result : Result T CallFault) : Type 0 where
  pub text : List ℕ
  pub is_text : IsDescription what f card text
  pub prints : PrintsTo before now text result

-- nothing was printed, since memory ran out
pub record IsStill (before now : Outside) (stop : CallFault) : Type 0 where
  pub untouched : IsUntouched before.told now.told
  pub counted : now.counted ≡ before.counted
  pub memory : stop ≡ Memory

abbrev pub PrintsText : {T : Type 0} → Description → Function → Card → Outside → Outside → Result T CallFault → Type 0
PrintsText {T = T} what f card before now (Ok x) = PrintsOne {T = T} what f card before now (Ok x)
PrintsText {T = T} what f card before now (Err stop) = PrintsOne {T = T} what f card before now (Err stop) ⊎ IsStill before now stop

-- what that comes to of the function under a name
abbrev pub DescribesTo : {T : Type 0} → Describe → Outside → Outside → Result T NoFunction → Type 0
DescribesTo c before now (Ok x) = IsDescribed c before now
DescribesTo c before now (Err (none.Text fault)) = IsNotDescribed c before now fault
DescribesTo c before now (Err (none.Stop stop)) = IsUndescribed c before now stop

-- what printing the line of a hash comes to
abbrev pub HashesTo : {T : Type 0} → Hash → Outside → Outside → Result T CallFault → Type 0
HashesTo c before now (Ok x) = IsHashed c before now
HashesTo c before now (Err stop) = IsUnhashed c before now stop
