-- Outputs that are compared side by side, the i-th being that of port i.
use Rattle.std.specs.Prelude.{◌≡◌, ℕ, ◌<◌, List, map, slice_get, Option, Some, None, Result, Ok, Err}
use Rattle.nf_files.specs.Told.{Told, IsToldAs}
use Rattle.file_match.specs.Comparing.{Comparing, Found, IsOtherIfTold}

-- the files of outputs, by port
abbrev pub files_of : List Comparing → List ℕ
files_of all = map (λ c. c.file) all

-- Of each output it was found whether it began with these bytes.
abbrev pub AreFound : (ℕ → List ℕ) → (ℕ → Option (List ℕ)) → List Comparing → Told → Type 0
AreFound bytes start all told =
    (k : ℕ) (c : Comparing) → slice_get all k ≡ Some c → Found c (bytes k) (start c.file) (told.rest c.file)

-- The outputs below a port held these bytes, where they are told.
abbrev pub AreToldBelow : ℕ → (ℕ → List ℕ) → (ℕ → Option (List ℕ)) → List ℕ → Type 0
AreToldBelow port bytes start files =
    (k file : ℕ) → k < port → slice_get files k ≡ Some file → IsToldAs (bytes k) (start file)

-- all outputs did
abbrev pub AreTold : (ℕ → List ℕ) → (ℕ → Option (List ℕ)) → List ℕ → Type 0
AreTold bytes start files =
    (k file : ℕ) → slice_get files k ≡ Some file → IsToldAs (bytes k) (start file)

-- The output of a port held other bytes, and that of no lesser port did.
pub record IsLeastOther (bytes : ℕ → List ℕ) (start : ℕ → Option (List ℕ)) (files : List ℕ) (port : ℕ) : Type 0 where
  pub file : ℕ
  pub at : slice_get files port ≡ Some file
  pub other : IsOtherIfTold (bytes port) (start file)
  pub lesser : AreToldBelow port bytes start files

-- the least output that held other bytes, or none did
abbrev pub IsFirstOther : {E : Type 0} → (ℕ → List ℕ) → (ℕ → Option (List ℕ)) → List ℕ → Result (Option ℕ) E → Type 0
IsFirstOther bytes start files (Ok None) = AreTold bytes start files
IsFirstOther bytes start files (Ok (Some port)) = IsLeastOther bytes start files port
IsFirstOther bytes start files (Err e) = Unit {0}
