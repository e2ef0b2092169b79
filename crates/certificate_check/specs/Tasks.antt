-- What a checker has still to do, and what is due by it.
use Rattle.std.specs.Prelude.{ℕ, ◌+◌, ◌<◌, Bool, List, [], ◌∷◌, reverse, set, Option}
use Rattle.certificate_laws.specs.Due as due
use Rattle.certificate_laws.specs.Due.{Due, Naming, Whole, Clashing}
use Rattle.certificate_check.specs.declared.tasks.Ask.{Ask}
use Rattle.certificate_check.specs.declared.tasks.Ask.TheVariants as ask
use Rattle.certificate_check.specs.declared.tasks.Task.{Task}
use Rattle.certificate_check.specs.declared.tasks.Task.TheVariants as task

-- what is asked, with what is fixed
abbrev pub due_of_ask : List (Option Bool) → Ask → Due
due_of_ask fixed (ask.Name place) = Naming place
due_of_ask fixed ask.Tree = Whole fixed
due_of_ask fixed ask.Clash = Clashing fixed
due_of_ask fixed (ask.Zeros place further) = due.Zeros fixed place further

-- what is due by tasks, the next one first
abbrev pub due_from : List (Option Bool) → List Task → List Due
due_from fixed [] = []
due_from fixed (task.Fix place value ∷ tasks) = due_from (set fixed place value) tasks
due_from fixed (task.Ask asked ∷ tasks) = due_of_ask fixed asked ∷ due_from fixed tasks

-- the same of a stack, whose next task is last
abbrev pub due_of : List (Option Bool) → List Task → List Due
due_of fixed tasks = due_from fixed (reverse tasks)

-- a task that speaks of places below n alone
abbrev pub IsWithin : ℕ → Task → Type 0
IsWithin n (task.Fix place value) = place < n
IsWithin n (task.Ask (ask.Name place)) = Unit {0}
IsWithin n (task.Ask ask.Tree) = Unit {0}
IsWithin n (task.Ask ask.Clash) = Unit {0}
IsWithin n (task.Ask (ask.Zeros place further)) = place + further < n
