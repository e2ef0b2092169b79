-- The files outside at one moment of a call.
use Rattle.std.specs.Prelude.{◌≡◌, ℕ, ◌<◌, List}
use Rattle.nf_files.specs.Told.{Told}
use Rattle.nf_files.specs.Causes.{Counted, Asked, asking}

-- what is told of the files outside, and what was counted of the calls on them
pub record Outside : Type 0 where
  pub told : Told
  pub counted : Counted

abbrev pub seen : Told → Counted → Outside
seen told counted = record { told = told; counted = counted }

-- no name and neither standard output has changed
pub record IsUntouched (before now : Told) : Type 0 where
  pub contents : (n : List ℕ) → now.content n ≡ before.content n
  pub standard : (g : ℕ) → g < 2 → now.given g ≡ before.given g

-- nothing has changed, no call failed, and these names were asked for
pub record HasOnlyAsked (names : List Asked) (before now : Outside) : Type 0 where
  pub untouched : IsUntouched before.told now.told
  pub asked : now.counted ≡ asking names before.counted
