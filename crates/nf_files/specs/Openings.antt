-- A name that is opened to be read, or created to be written.
use Rattle.std.specs.Prelude.{◌≡◌, ◌≢◌, ℕ, ◌+◌, ◌≤◌, List, Some}
use Rattle.nf_files.specs.declared.kind.Kind.{Kind}
use Rattle.nf_files.specs.Told.{Told, IsToldAs, IsEmptyIfTold, IsRead, IsWritten}

-- a name was opened, and all of its content is still to be read
pub record Opens (old new : Told) (opened : List ℕ) (file : ℕ) : Type 0 where
  pub number : file ≡ old.next
  pub from_two : 2 ≤ file
  pub then : new.next ≡ old.next + 1
  pub left : new.rest file ≡ old.content opened
  pub rests : (g : ℕ) → g ≢ file → new.rest g ≡ old.rest g
  pub givens : (g : ℕ) → g ≢ file → new.given g ≡ old.given g
  pub names : (g : ℕ) → g ≢ file → new.name g ≡ old.name g
  pub read : IsRead new file
  pub kinds : (g : ℕ) (k : Kind) → old.kind g ≡ Some k → new.kind g ≡ Some k
  pub contents : (n : List ℕ) → new.content n ≡ old.content n
  pub latest_same : (n : List ℕ) → new.latest n ≡ old.latest n

-- a name was created, and is empty
pub record Creates (old new : Told) (created : List ℕ) (file : ℕ) : Type 0 where
  pub number : file ≡ old.next
  pub from_two : 2 ≤ file
  pub then : new.next ≡ old.next + 1
  pub empty : IsEmptyIfTold (new.given file)
  pub named : IsToldAs created (new.name file)
  pub last : IsToldAs file (new.latest created)
  pub follows : new.content created ≡ new.given file
  pub rests : (g : ℕ) → g ≢ file → new.rest g ≡ old.rest g
  pub givens : (g : ℕ) → g ≢ file → new.given g ≡ old.given g
  pub names : (g : ℕ) → g ≢ file → new.name g ≡ old.name g
  pub written : IsWritten new file
  pub kinds : (g : ℕ) (k : Kind) → old.kind g ≡ Some k → new.kind g ≡ Some k
  pub contents : (n : List ℕ) → n ≢ created → new.content n ≡ old.content n
  pub latest_other : (n : List ℕ) → n ≢ created → new.latest n ≡ old.latest n
