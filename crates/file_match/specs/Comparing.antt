-- A file that is compared with the bytes that it is to hold.
use Rattle.std.specs.Prelude.{◌≡◌, ◌≢◌, ℕ, Bool, true, false, List, ◌++◌, Option, Some, None, Result, Ok, Err}
use denote.Ref.{Bor}
use Rattle.nf_files.specs.Pieces.{Takes}

-- a file, and whether its bytes so far are those that it is to hold
pub record Comparing : Type 0 where
  pub file : ℕ
  pub same : Bool

-- others don't begin with these bytes
abbrev pub IsNoFront : List ℕ → List ℕ → Type 0
IsNoFront bytes all = (later : List ℕ) → bytes ++ later ≢ all

-- the same, where the others are told
abbrev pub IsNoFrontIfTold : List ℕ → Option (List ℕ) → Type 0
IsNoFrontIfTold bytes None = Unit {0}
IsNoFrontIfTold bytes (Some all) = IsNoFront bytes all

-- these bytes are not the others, where those are told
abbrev pub IsOtherIfTold : List ℕ → Option (List ℕ) → Type 0
IsOtherIfTold bytes None = Unit {0}
IsOtherIfTold bytes (Some all) = all ≢ bytes

-- what stands behind a front of bytes, or they don't begin with it
abbrev pub IsBehind : List ℕ → List ℕ → Option (Bor (List ℕ)) → Type 0
IsBehind bytes front None = IsNoFront front bytes
IsBehind bytes front (Some rest) = front ++ rest.now ≡ bytes

-- What was left of a file begins with these bytes, and they were taken; or it doesn't.
abbrev pub AreNext : {E : Type 0} → List ℕ → Option (List ℕ) → Option (List ℕ) → Result Bool E → Type 0
AreNext bytes old new (Ok true) = Takes bytes old new
AreNext bytes old new (Ok false) = IsNoFrontIfTold bytes old
AreNext bytes old new (Err e) = Unit {0}

-- Since a start a file was found to hold these bytes, and to have this left; or not to begin with them.
abbrev pub FoundSo : Bool → List ℕ → Option (List ℕ) → Option (List ℕ) → Type 0
FoundSo true bytes start now = Takes bytes start now
FoundSo false bytes start now = IsNoFrontIfTold bytes start

-- the same, of a value
abbrev pub Found : Comparing → List ℕ → Option (List ℕ) → Option (List ℕ) → Type 0
Found v bytes start now = FoundSo v.same bytes start now

-- A file held exactly these bytes at a start, where that was told; or it held others.
abbrev pub IsWhole : {E : Type 0} → List ℕ → Option (List ℕ) → Result Bool E → Type 0
IsWhole bytes None (Ok same) = Unit {0}
IsWhole bytes (Some all) (Ok true) = all ≡ bytes
IsWhole bytes (Some all) (Ok false) = all ≢ bytes
IsWhole bytes start (Err e) = Unit {0}
