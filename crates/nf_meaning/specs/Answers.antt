-- What the call on a whole packet answers.
use Rattle.std.specs.Prelude.{◌≡◌, Option, Some, None, Result, Ok, Err}
use Rattle.nf_base.specs.declared.state.State.{State}
use Rattle.nf_base.specs.Step.{StepResult}
use Rattle.nf_meaning.specs.declared.undivided.Handled.{Handled}
use Rattle.nf_meaning.specs.declared.fault.StepFault.{StepFault}
use Rattle.nf_meaning.specs.declared.fault.StepFault.TheVariants.{BadChoice, Memory}

-- the step, refused exactly where there is none; want of memory says nothing
abbrev pub Answers : Result Handled StepFault → State → Option StepResult → Type 0
Answers (Ok handled) new meant = meant ≡ Some (record { state = new; done = handled.done })
Answers (Err BadChoice) new meant = meant ≡ None
Answers (Err Memory) new meant = Unit {0}
