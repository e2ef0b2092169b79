-- A file that is created under a name, and how much of a text it holds.
use Rattle.std.specs.Prelude.{◌≡◌, ◌≢◌, ℕ, List}
use Rattle.nf_files.specs.Told.{Told, IsToldAs}
use Rattle.stream_run.specs.Writing.{IsFrontIfTold}
use Rattle.call_base.specs.Created.{IsStanding}

-- A name was created under a number, and what is given to that stands there. Under no other name has
-- anything changed.
pub record IsMade (before now : Told) (name : List ℕ) (file : ℕ) : Type 0 where
  pub named : IsToldAs name (now.name file)
  pub standing : IsStanding now name file
  pub others : (n : List ℕ) → name ≢ n → now.content n ≡ before.content n

-- these bytes were given to it, and no others
pub record HoldsWhole (before now : Told) (name : List ℕ) (file : ℕ) (bytes : List ℕ) : Type 0 where
  pub made : IsMade before now name file
  pub whole : IsToldAs bytes (now.given file)

-- a front of these bytes was given to it
pub record HoldsFront (before now : Told) (name : List ℕ) (file : ℕ) (bytes : List ℕ) : Type 0 where
  pub made : IsMade before now name file
  pub front : IsFrontIfTold bytes (now.given file)
