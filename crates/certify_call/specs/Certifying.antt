-- What judging a certificate comes to before that is told on standard error.
use Rattle.std.specs.Prelude.{◌≡◌, ◌⊎◌, ◌+◌, ℕ, List, [], ◌∷◌, codes, Result, Ok, Err}
use Rattle.nf_base.specs.Text.{Function}
use Rattle.nf_files.specs.Told.{Told, IsToldAs}
use Rattle.nf_files.specs.Causes.{Counted, Asked, FaultedAsking, asking}
use Rattle.command_words.specs.Commands.{Certify}
use Rattle.call_base.specs.declared.status.RunFile.TheVariants.{Proof}
use Rattle.call_base.specs.declared.status.CallFault.{CallFault}
use Rattle.call_base.specs.declared.status.CallFault.TheVariants.{File, Memory}
use Rattle.call_base.specs.declared.status.TextFault.{TextFault}
use Rattle.call_base.specs.declared.loading.NoFunction.{NoFunction}
use Rattle.call_base.specs.declared.loading.NoFunction.TheVariants as none
use Rattle.call_base.specs.Outside.{Outside, IsUntouched, HasOnlyAsked}
use Rattle.call_base.specs.Names.{reading}
use Rattle.call_base.specs.Source.{IsFunctionUnder, IsNoFunctionUnder}
use Rattle.call_base.specs.Printed.{Printed, PrintedFront}
use Rattle.call_base.specs.PrintedOut.{IsPrintCause}
use Rattle.call_base.specs.Loading.{IsTextCause}
use Rattle.certify_call.specs.declared.judgement.Judgement.{Judgement}
use Rattle.certify_call.specs.declared.judgement.Judgement.TheVariants.{Right, Fails}
use Rattle.certify_call.specs.Judgements.{IsJudgement}

-- what is printed of a certificate that is right
abbrev pub certified_line : List ℕ
certified_line = codes "certified\n"

-- what was printed of a judgement: one line where the certificate is right, else nothing
abbrev pub IsPrintedOf : Judgement → Told → Told → Type 0
IsPrintedOf Right before now = Printed before now 0 certified_line
IsPrintedOf (Fails line) before now = now.given 0 ≡ before.given 0

-- the names that the call asks for: the function's, then the certificate's
abbrev pub asked_by : Certify → List Asked
asked_by c = reading c.function ∷ reading c.proof ∷ []

-- ---- printing

-- a judgement was printed, and no more
pub record IsTold (judged : Judgement) (before now : Outside) : Type 0 where
  pub contents : (n : List ℕ) → now.told.content n ≡ before.told.content n
  pub stdout : IsPrintedOf judged before.told now.told
  pub stderr : now.told.given 1 ≡ before.told.given 1
  pub counted : now.counted ≡ before.counted

-- a front of the line was printed
pub record IsHalfTold (before now : Outside) (stop : CallFault) : Type 0 where
  pub contents : (n : List ℕ) → now.told.content n ≡ before.told.content n
  pub stdout : PrintedFront before.told now.told 0 certified_line
  pub stderr : now.told.given 1 ≡ before.told.given 1
  pub cause : IsPrintCause before.counted now.counted stop

-- what printing a judgement comes to
abbrev pub TellsJudgement : Judgement → Outside → Outside → Result Judgement CallFault → Type 0
TellsJudgement judged before now (Ok told) = (told ≡ judged) × IsTold judged before now
TellsJudgement judged before now (Err stop) = (judged ≡ Right) × IsHalfTold before now stop

-- ---- the certificate under a name

-- what stands under a name comes to this, and that was printed
pub record IsJudgedUnder (f : Function) (name : List ℕ) (before now : Outside) (judged : Judgement)
    : Type 0 where
  pub text : List ℕ
  pub text_told : IsToldAs text (before.told.content name)
  pub is : IsJudgement f text judged
  pub contents : (n : List ℕ) → now.told.content n ≡ before.told.content n
  pub stdout : IsPrintedOf judged before.told now.told
  pub stderr : now.told.given 1 ≡ before.told.given 1
  pub counted : now.counted ≡ asking (reading name ∷ []) before.counted

-- the certificate's file failed, or memory ran out
abbrev pub IsProofCause : List ℕ → ℕ → Counted → Counted → CallFault → Type 0
IsProofCause name number old new (File file) =
    (file ≡ Proof) × FaultedAsking old new (reading name ∷ []) number
IsProofCause name number old new Memory =
    (new ≡ old) ⊎ (new ≡ asking (reading name ∷ []) old)

-- it could not be read, or memory ran out before anything was printed
pub record IsUnjudgedUnder (name : List ℕ) (before now : Outside) (stop : CallFault) : Type 0 where
  pub untouched : IsUntouched before.told now.told
  pub cause : IsProofCause name before.told.next before.counted now.counted stop

-- it is right, and a front of the line was printed
pub record IsHalfJudgedUnder (f : Function) (name : List ℕ) (before now : Outside)
    (stop : CallFault)
    : Type 0 where
  pub text : List ℕ
  pub text_told : IsToldAs text (before.told.content name)
  pub is : IsJudgement f text Right
  pub contents : (n : List ℕ) → now.told.content n ≡ before.told.content n
  pub stdout : PrintedFront before.told now.told 0 certified_line
  pub stderr : now.told.given 1 ≡ before.told.given 1
  pub cause : IsPrintCause (asking (reading name ∷ []) before.counted) now.counted stop

-- what judging what stands under a name comes to
abbrev pub JudgesUnder : Function → List ℕ → Outside → Outside → Result Judgement CallFault → Type 0
JudgesUnder f name before now (Ok judged) = IsJudgedUnder f name before now judged
JudgesUnder f name before now (Err stop) =
    IsUnjudgedUnder name before now stop ⊎ IsHalfJudgedUnder f name before now stop

-- ---- the call

-- What stands under the first name is a function, and what stands under the second comes to this as
-- its certificate, which was printed, and no more.
pub record IsJudged (c : Certify) (before now : Outside) (judged : Judgement) : Type 0 where
  pub function : Function
  pub is_function : IsFunctionUnder before.told c.function function
  pub text : List ℕ
  pub text_told : IsToldAs text (before.told.content c.proof)
  pub is : IsJudgement function text judged
  pub contents : (n : List ℕ) → now.told.content n ≡ before.told.content n
  pub stdout : IsPrintedOf judged before.told now.told
  pub stderr : now.told.given 1 ≡ before.told.given 1
  pub counted : now.counted ≡ asking (asked_by c) before.counted

-- What stands under the first name is no function, and this is its first fault.
abbrev pub IsNotJudged : Certify → Outside → Outside → TextFault → Type 0
IsNotJudged c before now fault =
    IsNoFunctionUnder before.told c.function fault
    × HasOnlyAsked (reading c.function ∷ []) before now

-- The function's text could not be read, or memory ran out.
pub record IsUnread (c : Certify) (before now : Outside) (stop : CallFault) : Type 0 where
  pub untouched : IsUntouched before.told now.told
  pub cause : IsTextCause c.function before.told.next before.counted now.counted stop

-- It is a function, and the certificate could not be read, or memory ran out before anything was
-- printed.
pub record IsProofUnread (c : Certify) (before now : Outside) (stop : CallFault) : Type 0 where
  pub function : Function
  pub is_function : IsFunctionUnder before.told c.function function
  pub untouched : IsUntouched before.told now.told
  pub cause : IsProofCause c.proof (before.told.next + 1) (asking (reading c.function ∷ []) before.counted)
      now.counted stop

-- It is a function and the certificate is right, and a front of the line was printed.
pub record IsHalfJudged (c : Certify) (before now : Outside) (stop : CallFault) : Type 0 where
  pub function : Function
  pub is_function : IsFunctionUnder before.told c.function function
  pub text : List ℕ
  pub text_told : IsToldAs text (before.told.content c.proof)
  pub is : IsJudgement function text Right
  pub contents : (n : List ℕ) → now.told.content n ≡ before.told.content n
  pub stdout : PrintedFront before.told now.told 0 certified_line
  pub stderr : now.told.given 1 ≡ before.told.given 1
  pub cause : IsPrintCause (asking (asked_by c) before.counted) now.counted stop

-- the call was stopped
abbrev pub IsUnjudged : Certify → Outside → Outside → CallFault → Type 0
IsUnjudged c before now stop =
    IsUnread c before now stop ⊎ (IsProofUnread c before now stop ⊎ IsHalfJudged c before now stop)

-- what judging a certificate comes to
abbrev pub JudgesTo : Certify → Outside → Outside → Result Judgement NoFunction → Type 0
JudgesTo c before now (Ok judged) = IsJudged c before now judged
JudgesTo c before now (Err (none.Text fault)) = IsNotJudged c before now fault
JudgesTo c before now (Err (none.Stop stop)) = IsUnjudged c before now stop
