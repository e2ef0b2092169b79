-- Nothing stands behind a statement of code that branches.
use Rattle.std.proofs.Common.{◌≡◌, refl}
use Rattle.nf_base.specs.Course.{Completion, Normal, Ended, NoStep, StoppedAt, and_then}

pub falls : (r : Completion) → and_then r (λ c. Normal c) ≡ r
falls (Normal c) = refl
falls (Ended a c) = refl
falls NoStep = refl
falls (StoppedAt chain left) = refl
