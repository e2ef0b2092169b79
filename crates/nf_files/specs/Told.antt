-- What is told of the files outside.
use Rattle.std.specs.Prelude.{◌≡◌, ◌⊎◌, ◌<◌, ℕ, List, [], Option, Some, None}
use Rattle.nf_files.specs.declared.kind.Kind.{Kind}
use Rattle.nf_files.specs.declared.kind.Kind.TheVariants.{Input, Output}

-- What the names and the numbers of files stand for. `None` tells nothing, but of a number's kind it
-- says that no opening and no creation gave the number. The number that the next opening gives is
-- always told; numbers are given once.
pub record Told : Type 0 where
  -- of a name: the bytes that stand under it
  pub content : List ℕ → Option (List ℕ)
  -- of a number that is read: the bytes that are still to be read
  pub rest : ℕ → Option (List ℕ)
  -- of a number that is written: the bytes that were given to it
  pub given : ℕ → Option (List ℕ)
  -- of a number that is written: the name that it was created under
  pub name : ℕ → Option (List ℕ)
  -- of a name: the number under which it was created last
  pub latest : List ℕ → Option ℕ
  -- of a number: whether an opening gave it, to be read, or a creation, to be written
  pub kind : ℕ → Option Kind
  pub next : ℕ

-- a number that an opening gave: its file is read
abbrev pub IsRead : Told → ℕ → Type 0
IsRead told g = told.kind g ≡ Some Input

-- a number that a creation gave: its file is written
abbrev pub IsWritten : Told → ℕ → Type 0
IsWritten told g = told.kind g ≡ Some Output

-- the number of a file to which bytes may be given: standard output and standard error are written too
abbrev pub TakesBytes : Told → ℕ → Type 0
TakesBytes told g = (g < 2) ⊎ IsWritten told g

-- it is this, where that is told
abbrev pub IsToldAs : {A : Type 0} → A → Option A → Type 0
IsToldAs x None = Unit {0}
IsToldAs x (Some y) = y ≡ x

-- nothing is there, where that is told
abbrev pub IsEmptyIfTold : Option (List ℕ) → Type 0
IsEmptyIfTold None = Unit {0}
IsEmptyIfTold (Some bytes) = bytes ≡ []

-- all that is told stayed as it was
pub record Same (old new : Told) : Type 0 where
  pub contents : (n : List ℕ) → new.content n ≡ old.content n
  pub rests : (g : ℕ) → new.rest g ≡ old.rest g
  pub givens : (g : ℕ) → new.given g ≡ old.given g
  pub names : (g : ℕ) → new.name g ≡ old.name g
  pub kinds : (g : ℕ) → new.kind g ≡ old.kind g
  pub latest_same : (n : List ℕ) → new.latest n ≡ old.latest n
  pub next_same : new.next ≡ old.next

-- the name was created last under this number, and what stands under it is what was given to that
pub record IsCurrent (told : Told) (n : List ℕ) (file : ℕ) : Type 0 where
  pub last : told.latest n ≡ Some file
  pub follows : told.content n ≡ told.given file
