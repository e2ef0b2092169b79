-- What has to be done for a bit of a vector.
use Rattle.std.specs.Prelude.{ℕ, Bool, List, [], ◌∷◌, Option, Some, if◌then◌else◌}
use Rattle.gf2_solve.specs.Sums.{plus}
use Rattle.certificate_check.specs.declared.tasks.Ask.TheVariants as ask
use Rattle.certificate_check.specs.declared.tasks.Task.{Task}
use Rattle.certificate_check.specs.declared.tasks.Task.TheVariants as task

-- the next thing last
abbrev pub bit_tasks : ℕ → Bool → Bool → List Task
bit_tasks place wanted own =
    task.Fix place (Some own)
    ∷ (if plus own wanted
    then task.Ask ask.Tree ∷ task.Fix place (Some wanted) ∷ task.Ask (ask.Name place) ∷ []
    else [])
