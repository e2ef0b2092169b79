-- What keys with a certificate come to before that is told on standard error.
use Rattle.std.specs.Prelude.{◌⊎◌, ◌+◌, ℕ, List, [], ◌∷◌, Result, Ok, Err}
use Rattle.nf_base.specs.Text.{Function}
use Rattle.nf_base.specs.declared.card.Card.{Card}
use Rattle.nf_files.specs.Causes.{Counted, Asked, asking}
use Rattle.command_words.specs.Commands.{Prove}
use Rattle.call_base.specs.declared.status.CallFault.{CallFault}
use Rattle.call_base.specs.declared.status.TextFault.{TextFault}
use Rattle.call_base.specs.declared.loading.NoFunction.{NoFunction}
use Rattle.call_base.specs.declared.loading.NoFunction.TheVariants as none
use Rattle.call_base.specs.Outside.{Outside, IsUntouched, HasOnlyAsked}
use Rattle.call_base.specs.Names.{reading, writing}
use Rattle.call_base.specs.Source.{IsFunctionUnder, IsNoFunctionUnder}
use Rattle.call_base.specs.Loading.{IsTextCause}
use Rattle.prove_call.specs.Texts.{AreTexts}
use Rattle.prove_call.specs.Leaving.{AreLeft, IsHalfWritten, IsHalfPrinted, IsUncreated}

-- the names that the call asks for: the function's, which is read, then the certificate's, which is
-- written
abbrev pub asked_by : Prove → List Asked
asked_by c = reading c.function ∷ writing c.proof ∷ []

-- ---- the keys of a function

-- the certificate of its verdict was written, and the verdict printed
pub record IsProvedUnder (f : Function) (card : Card) (name : List ℕ) (file : ℕ) (asked : Counted)
    (before now : Outside) : Type 0 where
  pub certificate : List ℕ
  pub printed : List ℕ
  pub are_texts : AreTexts f card certificate printed
  pub left : AreLeft name file asked certificate printed before now

-- how far that came: a front of the certificate was written, or the whole and a front of the verdict
-- printed
pub record IsHalfProvedUnder (f : Function) (card : Card) (name : List ℕ) (file : ℕ)
    (asked : Counted) (before now : Outside) (stop : CallFault) : Type 0 where
  pub certificate : List ℕ
  pub printed : List ℕ
  pub are_texts : AreTexts f card certificate printed
  pub far : IsHalfWritten name file asked certificate before now stop
      ⊎ IsHalfPrinted name file asked certificate printed before now stop

-- what it comes to; memory may run out before there are texts
abbrev pub ProvesUnder : {T : Type 0} → Function → Card → List ℕ → Outside → Outside →
    Result T CallFault → Type 0
ProvesUnder f card name before now (Ok x) =
    IsProvedUnder f card name before.told.next (asking (writing name ∷ []) before.counted) before now
ProvesUnder f card name before now (Err stop) =
    IsUncreated name before.told.next before now before.counted stop
    ⊎ IsHalfProvedUnder f card name before.told.next (asking (writing name ∷ []) before.counted) before now stop

-- ---- the call

-- What stands under the first name is a function. The certificate of its verdict was written under the
-- second name, and the verdict was printed, and no more.
pub record IsProved (c : Prove) (before now : Outside) : Type 0 where
  pub function : Function
  pub is_function : IsFunctionUnder before.told c.function function
  pub proved : IsProvedUnder function c.card c.proof (before.told.next + 1)
      (asking (asked_by c) before.counted) before now

-- What stands under the first name is no function, and this is its first fault.
abbrev pub IsNotProved : Prove → Outside → Outside → TextFault → Type 0
IsNotProved c before now fault =
    IsNoFunctionUnder before.told c.function fault
    × HasOnlyAsked (reading c.function ∷ []) before now

-- The function's text could not be read, or memory ran out.
pub record IsUnread (c : Prove) (before now : Outside) (stop : CallFault) : Type 0 where
  pub untouched : IsUntouched before.told now.told
  pub cause : IsTextCause c.function before.told.next before.counted now.counted stop

-- It is a function, and the certificate's file could not be created, or memory ran out before that.
pub record IsUnwritten (c : Prove) (before now : Outside) (stop : CallFault) : Type 0 where
  pub function : Function
  pub is_function : IsFunctionUnder before.told c.function function
  pub uncreated : IsUncreated c.proof (before.told.next + 1) before now
      (asking (reading c.function ∷ []) before.counted) stop

-- It is a function, and the call was stopped while the certificate was written, or behind that while
-- the verdict was printed.
pub record IsHalfProved (c : Prove) (before now : Outside) (stop : CallFault) : Type 0 where
  pub function : Function
  pub is_function : IsFunctionUnder before.told c.function function
  pub half : IsHalfProvedUnder function c.card c.proof (before.told.next + 1)
      (asking (asked_by c) before.counted) before now stop

-- the call was stopped
abbrev pub IsUnproved : Prove → Outside → Outside → CallFault → Type 0
IsUnproved c before now stop =
    IsUnread c before now stop ⊎ (IsUnwritten c before now stop ⊎ IsHalfProved c before now stop)

-- what keys with a certificate come to
abbrev pub ProvesTo : {T : Type 0} → Prove → Outside → Outside → Result T NoFunction → Type 0
ProvesTo c before now (Ok x) = IsProved c before now
ProvesTo c before now (Err (none.Text fault)) = IsNotProved c before now fault
ProvesTo c before now (Err (none.Stop stop)) = IsUnproved c before now stop
