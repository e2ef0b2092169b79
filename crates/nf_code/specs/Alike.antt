-- Blocks that mean the same.
use Rattle.std.specs.Prelude.{◌≡◌, List}
use Rattle.nf_base.specs.Text.{Block}
use Rattle.nf_base.specs.Context.{Context, Input}
use Rattle.nf_base.specs.Operations.{Stops}
use Rattle.nf_base.specs.Events.{Event}
use Rattle.nf_base.specs.Paths.{PathStep}
use Rattle.nf_base.specs.Course.{exec, events, route}

-- From each context two blocks complete alike, do the same and take the same path.
pub record Alike (a b : Block) : Type 0 where
  pub goes : (stops : Stops) (p : Input) (c : Context) → exec stops p a c ≡ exec stops p b c
  pub tells :
      (stops : Stops) (p : Input) (c : Context) (k : Context → List Event)
      → events stops p a c k ≡ events stops p b c k
  pub takes :
      (stops : Stops) (p : Input) (c : Context) (k : Context → List PathStep)
      → route stops p a c k ≡ route stops p b c k
